-- A renewal carried out step by step: each step leaves one less to do and changes no other sector. Assumes nothing.
use Prim.Native.Nat.{ℕ, suc, ◌+◌, ◌-◌, ◌≤◌, ◌<◌}
use mathlib.Core.Bool.{Bool, true, false, cond}
use mathlib.Core.List.{List, [], ◌∷◌}
use mathlib.Core.Path.{◌≡◌, refl, sym, ap, ◌∙◌}
use native.Mathlib.Omega.{arith}
use Rattle.std.specs.Prelude.{Option, Some, None}
use lib.ListN.{length}
use Rattle.compare.specs.Compare.{all}
use Rattle.flash.specs.Bytes.{blank, write}
use Rattle.flash.specs.Changes.{target_start, target_size, Lies}
use Rattle.flash.specs.Geometry.{geometry_check}
use Rattle.flash.specs.Steps.{closing, accepted, applied}
use Rattle.flash.specs.Valid.{Valid}
use Rattle.flash.specs.declared.geometry.Geometry.{Geometry}
use Rattle.flash.specs.declared.steps.Step.{Step}
use Rattle.flash.specs.declared.steps.Step.TheVariants.{Erase, Byte, Mark}
use Rattle.flash.proofs.Areas.{valid}
use Rattle.flash.proofs.Shown.{changes, step-passes}
use Rattle.slots.specs.OnePlace.{Stepped}
use Rattle.slots.specs.Places.{offset, bytes_at, trailer_of}
use Rattle.slots.specs.Renewed.{steps_left, Renewing, RenewalEnds}
use Rattle.slots.specs.Trailers.{flag_count, renewed_to, all_but_state, renew, renewal_of}
use Rattle.slots.specs.declared.places.Place.{Place}
use Rattle.slots.specs.declared.places.Place.TheVariants.{Sector}
use Rattle.slots.specs.declared.places.Slot.{Slot}
use Rattle.slots.proofs.Apart.{length_at, sectors}
use Rattle.slots.proofs.DueAccepted.{renewal_accepted}
use Rattle.slots.proofs.Renewals.{flag-count-max}
use Rattle.slots.proofs.Renewing.{stamps, is-blank, is_stamped, left-blank, left_stamped, left_closed}

module _ (g : Geometry) (f : List ℕ) (s : Slot) (x : ℕ) (ok : geometry_check g (length f) ≡ 0) (hx : x < 0xFF) where
  abbrev p : Place
  p = Sector s g.count

  abbrev z : ℕ
  z = g.size

  abbrev at : ℕ
  at = offset g p

  abbrev t : List ℕ
  t = trailer_of g f s

  abbrev n : ℕ
  n = flag_count g s

  v : Valid g (length f)
  v = valid g (length f) ok

  hz : 256 ≤ z
  hz = v.shape.size-min

  hn : n ≤ 64
  hn = flag-count-max g s v.shape.count-max

  size : length t ≡ z
  size = length_at g f v p (omega arith)

  on : Stepped g f p
  on = (sectors g f v).stepped p (omega arith)

  -- a step within the trailer
  step : (d : Step) (k : ℕ) → accepted g d ≡ true → Lies (target_start d) (target_size g d) at z
      → steps_left (trailer_of g (applied g f d) s) n x ≡ k → steps_left t n x ≡ suc k → Renewing g f s x d
  step d k a l after before =
      let c = step-passes g (length f) d ok a in
      record {
        accepted = c;
        less = ap suc after ∙ sym before;
        others = λ q w e. (sectors g f v).others p (omega arith) (applied g f d) (target_start d) (target_size g d) (changes.only g f d c).whole l q w e;
      }

  erase : accepted g (Erase at) ≡ true → steps_left t n x ≡ 3 → Renewing g f s x (Erase at)
  erase a e = step (Erase at) 2 a (omega arith, omega arith) (rw on.erased (left-blank z hz x hx n hn)) e

  byte : all 0xFF t ≡ true → accepted g (Byte (at + (z - 5)) x) ≡ true → steps_left t n x ≡ 2 → Renewing g f s x (Byte (at + (z - 5)) x)
  byte b a e =
      let w : bytes_at g (applied g f (Byte (at + (z - 5)) x)) p ≡ _
      = on.one_byte (z - 5) x (omega (arith, hz)) ∙ ap (λ (l : List ℕ). write l (z - 5) (x ∷ [])) (is-blank t (omega (arith, size, hz)) b ∙ ap blank size)
      ∙ stamps z hz x hx in
      step (Byte (at + (z - 5)) x) 1 a (omega arith, omega (arith, hz)) (rw w (left_stamped z hz x hx n hn)) e

  mark : all_but_state t x ≡ true → accepted g (Mark (at + (z - 4))) ≡ true → steps_left t n x ≡ 1 → Renewing g f s x (Mark (at + (z - 4)))
  mark b a e =
      let q = is_stamped t (omega (arith, size, hz)) x hx b in
      let w : bytes_at g (applied g f (Mark (at + (z - 4)))) p ≡ _
      = on.marked ∙ ap (λ (l : List ℕ). write l (z - 4) closing) (rw size at q) in
      step (Mark (at + (z - 4))) 0 a (omega arith, omega (arith, hz)) (rw w (left_closed z hz x hx n hn)) e

  due-is : {c d : Step} → ◌≡◌ {A = Option Step} (Some c) (Some d) → c ≡ d
  due-is e = cc

  due : (d : Step) → renewal_of g f s x ≡ Some d → Renewing g f s x d
  unfolding renew steps_left
  due d due-d = go (renewed_to t n x) refl (all 0xFF t) refl (all_but_state t x) refl due-d
    where
      ok_d : accepted g d ≡ true
      ok_d = rw due-d at (renewal_accepted g f v s x)

      five : at + length t - 5 ≡ at + (z - 5)
      five = omega (arith, size, hz)

      four : at + length t - 4 ≡ at + (z - 4)
      four = omega (arith, size, hz)

      go : (r : Bool) → renewed_to t n x ≡ r → (a : Bool) → all 0xFF t ≡ a → (b : Bool) → all_but_state t x ≡ b
          → cond r None (Some (cond a (Byte (at + length t - 5) x) (cond b (Mark (at + length t - 4)) (Erase at)))) ≡ Some d → Renewing g f s x d
      go true er a ea b eb q = absurd (let o : ◌≡◌ {A = ℕ} 0 1 = cc in omega arith)
      go false er true ea b eb q =
          let e : Byte (at + (z - 5)) x ≡ d = rw five at (due-is q) in
          rw (← e) (byte ea (rw (← e) at ok_d) (rw (er, ea)))
      go false er false ea true eb q =
          let e : Mark (at + (z - 4)) ≡ d = rw four at (due-is q) in
          rw (← e) (mark eb (rw (← e) at ok_d) (rw (er, ea, eb)))
      go false er false ea false eb q =
          let e : Erase at ≡ d = due-is q in
          rw (← e) (erase (rw (← e) at ok_d) (rw (er, ea, eb)))

  finished : steps_left t n x ≡ 0 → renewal_of g f s x ≡ None
  unfolding renew steps_left
  finished = go (renewed_to t n x) refl (all 0xFF t) refl (all_but_state t x) refl
    where
      go : (r : Bool) → renewed_to t n x ≡ r → (a : Bool) → all 0xFF t ≡ a → (b : Bool) → all_but_state t x ≡ b
          → ◌≡◌ {A = ℕ} (cond r 0 (cond a 2 (cond b 1 3))) 0
          → cond r None (Some (cond a (Byte (at + length t - 5) x) (cond b (Mark (at + length t - 4)) (Erase at)))) ≡ None
      go true er a ea b eb q = refl
      go false er true ea b eb q = absurd (omega arith)
      go false er false ea true eb q = absurd (omega arith)
      go false er false ea false eb q = absurd (omega arith)

pub renewal_ends : RenewalEnds
renewal_ends g f s x ok hx = record { finished = finished g f s x ok hx; due = due g f s x ok hx }
