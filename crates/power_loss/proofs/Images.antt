-- An image is its sectors one after the other. Assumes nothing.
use Prim.Native.Nat.{ℕ, zero, suc, ◌+◌, ◌*◌, ◌<◌}
use mathlib.Core.List.{List, ◌++◌}
use mathlib.Core.Path.{◌≡◌, sym, ap, ap₂, ◌∙◌}
use native.Mathlib.Nat.{zero-mul, suc-mul, add_comm}
use native.Mathlib.Omega.{arith}
use lib.ListN.{take, drop}
use lib.Seq.{take-add, drop-drop}
use Rattle.flash.specs.declared.geometry.Geometry.{Geometry}
use Rattle.slots.specs.Places.{start, offset, bytes_at, image_of}
use Rattle.slots.specs.declared.places.Place.TheVariants.{Sector}
use Rattle.slots.specs.declared.places.Slot.{Slot}

-- n parts of z bytes from an offset on, one by one
parts_same : (n z a a' : ℕ) (f f' : List ℕ) → ((i : ℕ) → i < n → take z (drop (a + i * z) f) ≡ take z (drop (a' + i * z) f'))
    → take (n * z) (drop a f) ≡ take (n * z) (drop a' f')
parts_same zero z a a' f f' e = rw (zero-mul z)
parts_same (suc n) z a a' f f' e =
    split a f ∙ ap₂ {C = List ℕ} (λ x y. x ++ y) (rw (← at_zero a, ← at_zero a') at (e 0 (omega arith)))
    (parts_same n z (a + z) (a' + z) f f' (λ i h. rw (at_next a i, at_next a' i) (e (suc i) (omega arith)))) ∙ sym (split a' f')
  where
    at_zero : (b : ℕ) → b ≡ b + 0 * z
    at_zero b = omega arith

    at_next : (b i : ℕ) → b + z + i * z ≡ b + suc i * z
    at_next b i = omega arith

    split : (b : ℕ) (l : List ℕ) → take (suc n * z) (drop b l) ≡ take z (drop b l) ++ take (n * z) (drop (b + z) l)
    split b l =
        ap (λ (x : ℕ). take x (drop b l)) (suc-mul n z ∙ add_comm (n * z) z) ∙ take-add z (n * z) (drop b l)
        ∙ ap (λ (x : List ℕ). take z (drop b l) ++ take (n * z) x) (drop-drop z b l)

pub image-same : (g : Geometry) (f f' : List ℕ) (s s' : Slot)
    → ((i : ℕ) → i < g.count → bytes_at g f (Sector s i) ≡ bytes_at g f' (Sector s' i)) → image_of g f s ≡ image_of g f' s'
unfolding image_of bytes_at offset
image-same g f f' s s' e = parts_same g.count g.size (start g s) (start g s') f f' e
