-- A word on 65 qubits has two numbers in each plane.
use Rattle.std.proofs.Common.{◌≡◌, arith}
use Rattle.pauli.specs.Word.{width}
use Rattle.starred_main.proofs.show_bucket.Goals as goal

pub write_letter-requires : goal.write_letter-requires
unfolding width
write_letter-requires g c =
    let two : c.width-l.result ≡ 2 = c.width-l.ensures in
    (omega (arith, two), omega (arith, two, c.requires))

pub support_signature-s-requires : goal.support_signature-s-requires
unfolding width
support_signature-s-requires g c =
    let two : c.width-l.result ≡ 2 = c.width-l.ensures in
    (omega (arith, two), omega (arith, two))
