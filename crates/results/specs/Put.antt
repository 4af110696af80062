-- Records laid one behind the other into a slice. Assumes nothing.
use Rattle.std.specs.Prelude.{◌≡◌, refl, List, ◌++◌, ℕ, ◌+◌, ◌≤◌, length, drop}
use Rattle.std.proofs.Common.{sym, ap, ◌∙◌, append_assoc, zero-add, length-append, take_at, drop-drop}
use Rattle.std.proofs.Math.Seq.{drop-append-add}
use Rattle.store.specs.Part.{put}

-- from the front
pub put_front : (s w : List ℕ) → put s 0 w ≡ w ++ drop (length w) s
unfolding put
put_front s w = ap (λ (k : ℕ). w ++ drop k s) (zero-add (length w))

pub put_behind : (s w v : List ℕ) → length w + length v ≤ length s → put (put s 0 w) (length w) v ≡ put s 0 (w ++ v)
unfolding put
put_behind s w v h =
    ap (λ (x : List ℕ). put x (length w) v) (put_front s w) ∙ go ∙ sym (put_front s (w ++ v))
  where
    rest : List ℕ
    rest = drop (length w) s

    go : put (w ++ rest) (length w) v ≡ (w ++ v) ++ drop (length (w ++ v)) s
    go =
        ap (λ (x : List ℕ). x ++ (v ++ drop (length w + length v) (w ++ rest))) (take_at w rest (length w) refl)
        ∙ ap (λ (x : List ℕ). w ++ (v ++ x)) (drop-append-add w rest (length v) ∙ drop-drop (length v) (length w) s)
        ∙ sym (append_assoc w v (drop (length w + length v) s))
        ∙ ap (λ (k : ℕ). (w ++ v) ++ drop k s) (sym (length-append w v))
