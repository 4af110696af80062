-- Choices, case by case: `by-if` and `by-else` where both cases hold, `on-if` where the test's value is wanted; what came of an option.
-- Assumes nothing.
use Rattle.std.specs.Prelude.{◌≡◌, refl, Bool, true, false, ◌&&◌, ◌||◌, ℕ}
use Rattle.std.proofs.Common.{sym, ap, ◌∙◌, true≢false, arith}
use Rattle.std.proofs.Math.Bool.{or-true}
use Rattle.std.proofs.Math.Option.{Option, none, some, or_else, bind, map}
use Rattle.model.specs.Lists.{when◌then◌else◌}

-- whatever the test says
pub by_if : {A : Type 0} (P : A → Type 0) (b : Bool) (x y : A) → P x → P y → P (when b then x else y)
unfolding when◌then◌else◌
by_if P b x y hx hy = go b
  where
    go : (b : Bool) → P (when b then x else y)
    go true = hx
    go false = hy

-- with the test's value in hand
pub on_if : {A : Type 0} (P : A → Type 0) (b : Bool) (x y : A) → (b ≡ true → P x) → (b ≡ false → P y) → P (when b then x else y)
unfolding when◌then◌else◌
on_if P b x y hx hy = go b hx hy
  where
    go : (b : Bool) → (b ≡ true → P x) → (b ≡ false → P y) → P (when b then x else y)
    go true hx hy = hx refl
    go false hx hy = hy refl

-- where the test holds
pub if_true : {A : Type 0} {b : Bool} (x y : A) → b ≡ true → (when b then x else y) ≡ x
unfolding when◌then◌else◌
if_true x y e = rw e refl

-- where it fails
pub if_false : {A : Type 0} {b : Bool} (x y : A) → b ≡ false → (when b then x else y) ≡ y
unfolding when◌then◌else◌
if_false x y e = rw e refl

-- a function of a choice
pub of_if : {A B : Type 0} (g : A → B) (b : Bool) (x y : A) → g (when b then x else y) ≡ (when b then g x else g y)
unfolding when◌then◌else◌
of_if g true x y = refl
of_if g false x y = refl

-- neither of two tests holds
pub neither : (x y : Bool) → x || y ≡ false → (x ≡ false) × (y ≡ false)
neither true y h = absurd (true≢false h)
neither false y h = (refl, h)

-- the second of two tests holds
pub or_right : (x y : Bool) → y ≡ true → x || y ≡ true
or_right x y e = ap (λ (b : Bool). x || b) e ∙ or-true x

-- both of two tests hold
pub and_left : (x y : Bool) → x && y ≡ true → x ≡ true
and_left true y h = refl
and_left false y h = absurd (true≢false (sym h))

pub and_right : (x y : Bool) → x && y ≡ true → y ≡ true
and_right true y h = h
and_right false y h = absurd (true≢false (sym h))

-- whichever of two options it is
pub by_else : {A : Type 0} (P : Option A → Type 0) (x y : Option A) → P x → P y → P (or_else x y)
unfolding or_else
by_else P none y hx hy = hy
by_else P (some x) y hx hy = hx

-- a function of the first of two that is there
pub of_else : {A B : Type 0} (g : A → B) (x y : Option A) → map g (or_else x y) ≡ or_else (map g x) (map g y)
unfolding or_else
of_else g none y = refl
of_else g (some x) y = refl

-- ---- an option that is there

pub none_some : {A : Type 0} {x : A} → ◌≡◌ {A = Option A} none (some x) → ⊥
none_some {A} {x} e = let z : ◌≡◌ {A = ℕ} 0 1 = cc in omega arith

pub bind_some : {A B : Type 0} (x : Option A) (f : A → Option B) (b : B) → bind x f ≡ some b → (a : A) × (x ≡ some a) × (f a ≡ some b)
unfolding bind
bind_some none f b h = absurd (none_some h)
bind_some (some a) f b h = (a, refl, h)

pub map_some : {A B : Type 0} (f : A → B) (x : Option A) (b : B) → map f x ≡ some b → (a : A) × (x ≡ some a) × (f a ≡ b)
map_some f none b h = absurd (none_some h)
map_some f (some a) b h = (a, refl, cc)
