-- The first byte that is no blank, or the end. Assumes nothing.
use Rattle.std.proofs.Common.{rules, tests, ◌≡◌, ◌∙◌, sym, ap, drop}
use Rattle.std.proofs.lemmas.Iterator.{YieldsList-from_slice}
use Rattle.std.proofs.lemmas.Iterator.Search.{position_from_yields_List}
use Rattle.std.proofs.lemmas.List.Sums.{prefix_len-le-length}
use Rattle.std.specs.List.{position, position_or_len}
use Rattle.listing_fields.specs.Field.{no_blank, blanks_end, position_end}
use Rattle.listing_fields.proofs.field.blanks.Goals as goal

pub returns : goal.returns
returns c =
    let f = c.args.f.now in
    let e : c.position.result ≡ position no_blank f =
    position_from_yields_List no_blank _ _ _ c.position.ensures.ran (YieldsList-from_slice f cc) (λ x b q k. search (rules, tests)) in
    let end : c.unwrap_or.result ≡ position_or_len no_blank f = c.unwrap_or.ensures ∙ position_end no_blank f e in (
      rw end (prefix_len-le-length _ f),
      blanks_end f ∙ ap (λ n. drop n f) (sym end),
    )
