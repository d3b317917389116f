-- A walk as the list that an iterator over it yields: how the list goes on from a step.
-- Assumes nothing.
use Prim.Native.Nat.{ℕ}
use mathlib.Core.List.{List, [], ◌∷◌}
use mathlib.Core.Logic.{◌⊎◌, inl, inr, ⊎_elim}
use mathlib.Core.Path.{◌≡◌, sym, ap, ◌∙◌}
use native.Mathlib.Omega.{arith}
use Rattle.std.specs.Prelude.{None, Result, Ok, Err}
use Rattle.refusal.specs.Numbers.{number}
use Rattle.refusal.specs.declared.Refusal.TheVariants as R
use Rattle.refusal.specs.declared.Refusal.{Refusal}
use Rattle.refusal.proofs.Told.{numbers_tell}
use Rattle.header.specs.Items.{items}
use Rattle.header.specs.Lookup.{first}
use Rattle.header.specs.Seen.{seen_after, first_seen}
use Rattle.header.specs.Walk.{Walk, on_step, walk}
use Rattle.header.specs.declared.checks.Seen.{Seen}
use Rattle.header.specs.declared.tags.Tag.{Tag}
use Rattle.header.proofs.OneWalk.{checked}
use Rattle.header.proofs.Refusals.{first_one}
use Rattle.header.proofs.Shown.{stays}
use Rattle.header.proofs.Lookups.{first_any, first_none}
use Rattle.header.proofs.Walk.{walk_step, step_end}

items_end : (h : List ℕ) → items (walk h 256 256) ≡ []
items_end h = ap items (walk_step h 256 256 ∙ ap (on_step (walk h 256)) (step_end h 256 256 (omega arith)))

module _ (h : List ℕ) (p : ℕ) where
  pub items_met : {t : Tag} → first None (walk h 256 p) ≡ Ok t → items (walk h 256 p) ≡ Ok t ∷ items (walk h 256 t.next)
  items_met f = ap items (first_any h 256 p f)

  pub items_absent : first None (walk h 256 p) ≡ Err 25 → items (walk h 256 p) ≡ []
  items_absent f = ap items (first_none h 256 p f)

  pub items_overrun : (r : Refusal) → first None (walk h 256 p) ≡ Err (number r) → (r ≡ R.TagAbsent → ⊥) → items (walk h 256 p) ≡ Err r ∷ items (walk h 256 256)
  items_overrun r f n =
      let w = first_none h 256 p f in
      ⊎_elim (λ e. let is : r ≡ R.TagOverrun = numbers_tell.told r R.TagOverrun (ap (λ (w : Walk). w.number) (sym w) ∙ e) in ap items w ∙ rw (is, items_end h))
      (λ e. absurd (n (numbers_tell.told r R.TagAbsent (ap (λ (w : Walk). w.number) (sym w) ∙ e)))) (stays h 256 p).ends

-- what the checks of what is left come to, where some tags were seen before
abbrev pub checks_left : Seen → List (Result Tag Refusal) → ℕ
checks_left s [] = first_seen s
checks_left s (Ok t ∷ is) = checks_left (seen_after s t) is
checks_left s (Err r ∷ is) = number r

checks_of_items : (s : Seen) (ts : List Tag) (n : ℕ) → (n ≡ 13) ⊎ (n ≡ 25) → checks_left s (items (record { tags = ts; number = n })) ≡ checked s (record { tags = ts; number = n })
checks_of_items s [] n (inl e) = rw e
checks_of_items s [] n (inr e) = rw e (sym (first_one (first_seen s)))
checks_of_items s (t ∷ ts) n d = checks_of_items (seen_after s t) ts n d

pub checks_are : (s : Seen) (h : List ℕ) (p : ℕ) → checks_left s (items (walk h 256 p)) ≡ checked s (walk h 256 p)
checks_are s h p = checks_of_items s (walk h 256 p).tags (walk h 256 p).number (stays h 256 p).ends
