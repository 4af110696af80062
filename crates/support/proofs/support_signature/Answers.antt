-- The loop's invariant: the buckets of the first j words of each plane. What is read out of a slice has 64 bits. Assumes nothing.
use mathlib.Core.Path.{◌≡◌, refl, sym}
use Rattle.pauli.specs.Word.{IsWord}
use Rattle.pauli.specs.Support.{signature, signature_to}
use Rattle.pauli.specs.SupportLaws.{signature_one}
use Rattle.support.proofs.Turns.{word_more}
use native.Mathlib.Omega.{arith}
use Rattle.support.proofs.support_signature.Goals as goal

pub returns-then-l-eq1 : goal.returns-then-l-eq1
returns-then-l-eq1 c =
    let one : c.args.l ≡ 1 = omega arith in
    let word : IsWord 1 c.args.words.now = record { long = omega arith; fits = λ j. (c.type_inv.words j).fits } in
    rw one (sym (signature_one _ word), word)

pub loop-j-init : goal.loop-j-init
unfolding signature_to
loop-j-init c = (omega arith, refl)

pub loop-j-preserved : goal.loop-j-preserved
loop-j-preserved c = (omega arith, word_more _ _ _ _ _ c.loop-j.invariant.1 c.add_buckets-sig.ensures)

pub returns : goal.returns
unfolding signature
returns c =
    let e : c.loop-j.j ≡ c.args.l = omega arith in
    (rw (c.loop-j.invariant.1, e), record { long = c.requires.0; fits = λ j. (c.type_inv.words j).fits })
