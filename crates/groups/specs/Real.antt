-- Twice the cosine and the sine of an angle, on a group and as expressions. Assumes nothing.
use Rattle.groups.specs.Abelian.{Ab}
use Rattle.groups.specs.Root.{Root, Exp, ∅, ◌⊞◌, ⊟◌, √◌}
use Rattle.groups.specs.Eighth.{Eighth, e0, e1, e2, e3, e4, e5, e6, e7, prev}

-- 2 cos and 2 sin times an expression
abbrev pub cosᵉ : Eighth → Exp → Exp
cosᵉ e0 a = a ⊞ a
cosᵉ e1 a = √ a
cosᵉ e2 a = ∅
cosᵉ e3 a = ⊟ (√ a)
cosᵉ e4 a = ⊟ (a ⊞ a)
cosᵉ e5 a = ⊟ (√ a)
cosᵉ e6 a = ∅
cosᵉ e7 a = √ a

abbrev pub sinᵉ : Eighth → Exp → Exp
sinᵉ e a = cosᵉ (prev (prev e)) a

module _ (M : Ab) (Mr : Root M) where
  open M use {C, zer, add as ◌⊹◌, neg, add_assoc, add_comm, add_zer, add_neg}
  open Mr use {r, r_add, r_r, torsion}

  infixl 60 ◌⊹◌
  -- 2 cos and 2 sin
  abbrev pub cos2 : Eighth → C → C
  cos2 e0 x = x ⊹ x
  cos2 e1 x = r x
  cos2 e2 x = zer
  cos2 e3 x = neg (r x)
  cos2 e4 x = neg (x ⊹ x)
  cos2 e5 x = neg (r x)
  cos2 e6 x = zer
  cos2 e7 x = r x

  abbrev pub sin2 : Eighth → C → C
  sin2 e x = cos2 (prev (prev e)) x
