-- Different sectors lie apart, and a step changes one of them. Assumes nothing.
use Prim.Native.Nat.{ℕ, suc, ◌+◌, ◌-◌, ◌*◌, ◌≤◌, ◌<◌}
use mathlib.Core.List.{List, [], ◌∷◌}
use mathlib.Core.Logic.{inl, inr, ◌≢◌}
use mathlib.Core.Path.{◌≡◌, refl, sym, ap, ◌∙◌}
use native.Mathlib.Decide.{dec_lt}
use native.Mathlib.Nat.{add-zero, mul-le-mul_right}
use native.Mathlib.Omega.{arith}
use lib.ListN.{length, get_or}
use Rattle.flash.specs.Bytes.{blank, ands, write}
use Rattle.flash.specs.Changes.{Lies, Only}
use Rattle.flash.specs.Geometry.{slot_size}
use Rattle.flash.specs.Steps.{closing}
use Rattle.flash.specs.Valid.{Apart, Valid}
use Rattle.flash.specs.declared.geometry.Geometry.{Geometry}
use Rattle.flash.proofs.Areas.{valid}
use Rattle.flash.proofs.Closing.{length-closing}
use Rattle.flash.proofs.Parts.{length_part, get_d_part, part_is, write-within, overlay-whole}
use Rattle.flash.proofs.Writes.{write-all, length-blank}
use Rattle.slots.specs.OnePlace.{Stepped, Sectors, OnePlace}
use Rattle.slots.specs.Places.{start, offset, Within, bytes_at}
use Rattle.slots.specs.declared.places.Place.{Place}
use Rattle.slots.specs.declared.places.Place.TheVariants.{Sector, Swap}
use Rattle.slots.specs.declared.places.Slot.{Slot}
use Rattle.slots.specs.declared.places.Slot.TheVariants.{Boot, Update}
use Rattle.slots.proofs.Sectors.{offset_in}

turned : (a k b m : ℕ) → Apart a k b m → Apart b m a k
turned a k b m (inl h) = inr h
turned a k b m (inr h) = inl h

module _ (g : Geometry) (len : ℕ) (v : Valid g len) where
  abbrev z : ℕ
  z = g.size

  -- a sector of a slot lies within the slot
  within_slot : (s : Slot) (i : ℕ) → i ≤ g.count → Lies (offset g (Sector s i)) z (start g s) (slot_size g)
  unfolding offset
  within_slot s i h = (omega arith, omega (arith, mul-le-mul_right z h))

  -- what lies within two areas that are apart is apart
  narrowed : (a k b m c d : ℕ) → Apart a k b m → Lies c z a k → Lies d z b m → Apart c z d z
  narrowed a k b m c d (inl h) x y = inl (omega arith)
  narrowed a k b m c d (inr h) x y = inr (omega arith)

  -- two sectors of one slot
  in_row : (s : Slot) (i j : ℕ) → i ≢ j → Apart (offset g (Sector s i)) z (offset g (Sector s j)) z
  unfolding offset
  in_row s i j n = go (dec_lt i j)
    where
      go : Dec (i < j) → Apart (start g s + i * z) z (start g s + j * z) z
      go (yes h) = inl (omega (arith, mul-le-mul_right z h))
      go (no h) = let k : suc j ≤ i = omega arith in inr (omega (arith, mul-le-mul_right z k))

  slot_swap : (s : Slot) → Apart (start g s) (slot_size g) g.swap z
  slot_swap Boot = v.boot_swap
  slot_swap Update = v.update_swap

  sector_swap : (s : Slot) (i : ℕ) → i ≤ g.count → Apart (offset g (Sector s i)) z (offset g Swap) z
  unfolding offset
  sector_swap s i h =
      narrowed (start g s) (slot_size g) g.swap z (offset g (Sector s i)) g.swap (slot_swap s) (within_slot s i h) (omega arith, omega arith)

  boot_update : (i j : ℕ) → i ≤ g.count → j ≤ g.count → Apart (offset g (Sector Boot i)) z (offset g (Sector Update j)) z
  boot_update i j h k =
      narrowed g.boot (slot_size g) g.update (slot_size g) (offset g (Sector Boot i)) (offset g (Sector Update j))
      v.boot_update (within_slot Boot i h) (within_slot Update j k)

  pub offset-apart : (p q : Place) → Within g p → Within g q → p ≢ q → Apart (offset g p) z (offset g q) z
  offset-apart (Sector Boot i) (Sector Boot j) h k n = in_row Boot i j (λ e. n (ap (λ (x : ℕ). Sector Boot x) e))
  offset-apart (Sector Update i) (Sector Update j) h k n = in_row Update i j (λ e. n (ap (λ (x : ℕ). Sector Update x) e))
  offset-apart (Sector Boot i) (Sector Update j) h k n = boot_update i j h k
  offset-apart (Sector Update i) (Sector Boot j) h k n = turned (offset g (Sector Boot j)) z (offset g (Sector Update i)) z (boot_update j i k h)
  offset-apart (Sector s i) Swap h k n = sector_swap s i h
  offset-apart Swap (Sector s j) h k n = turned (offset g (Sector s j)) z (offset g Swap) z (sector_swap s j k)
  offset-apart Swap Swap h k n = absurd (n refl)

module _ (g : Geometry) (f : List ℕ) (v : Valid g (length f)) where
  in_flash : (p : Place) → Within g p → offset g p + g.size ≤ length f
  in_flash p w = offset_in g (length f) v p w

  pub length_at : (p : Place) → Within g p → length (bytes_at g f p) ≡ g.size
  unfolding bytes_at
  length_at p w = length_part f (offset g p) g.size (in_flash p w)

  -- a write within a sector is a write to its bytes
  written : (p : Place) → Within g p → (k : ℕ) (d : List ℕ) → k + length d ≤ g.size
      → bytes_at g (write f (offset g p + k) d) p ≡ write (bytes_at g f p) k d
  unfolding bytes_at
  written p w k d h = write-within f (offset g p) g.size k d (in_flash p w) h

  written_all : (p : Place) → Within g p → (d : List ℕ) → length d ≡ g.size → bytes_at g (write f (offset g p) d) p ≡ ands (bytes_at g f p) d
  written_all p w d h = rw (add-zero, write-all) at (written p w 0 d (omega arith))

  steps : (p : Place) → Within g p → Stepped g f p
  unfolding bytes_at
  steps p w = record {
    erased = overlay-whole f (offset g p) g.size (blank g.size) (in_flash p w) (length-blank g.size);
    copied = λ q u. written_all p w (bytes_at g f q) (length_at q u);
    one_byte = λ k x h. written p w k (x ∷ []) (omega arith);
    marked = written p w (g.size - 4) closing (omega (arith, length-closing, v.shape.size-min));
    torn = λ f' t. rw t.is (overlay-whole f (offset g p) g.size t.left (in_flash p w) t.size);
  }

  others : (p : Place) → Within g p → (f' : List ℕ) (at k : ℕ) → Only f f' at k → Lies at k (offset g p) g.size
      → (q : Place) → Within g q → p ≢ q → bytes_at g f' q ≡ bytes_at g f q
  unfolding bytes_at
  others p w f' at k o l q u n =
      part_is f' (offset g q) g.size (bytes_at g f q) (omega (arith, o.size, in_flash q u)) (length_at q u)
      (λ i h. go i h (offset-apart g (length f) v p q w u n) ∙ sym (get_d_part f (offset g q) g.size i h))
    where
      go : (i : ℕ) → i < g.size → Apart (offset g p) g.size (offset g q) g.size → get_or f' (offset g q + i) 0 ≡ get_or f (offset g q + i) 0
      go i h (inl a) = o.others (offset g q + i) (inr (omega arith))
      go i h (inr a) = o.others (offset g q + i) (inl (omega arith))

  pub sectors : Sectors g f
  sectors = record { inside = in_flash; apart = offset-apart g (length f) v; stepped = steps; others = others }

pub one_place : OnePlace
one_place g f e = sectors g f (valid g (length f) e)
