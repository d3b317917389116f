-- Every starred case has its answer: the list of the answers is computed, and read case by case.
-- Assumes nothing.
use mathlib.Core.List.Memᴰ
use mathlib.Core.List.{List, [], ◌∷◌, map, Memᴰ}
use mathlib.Core.Logic.{⊎_elim}
use mathlib.Core.Path.{◌≡◌, refl}
use Rattle.compare.specs.Compare.{same, all}
use Rattle.flash.specs.Cuts.{sound}
use Rattle.flash.specs.Geometry.{placed, disjoint, geometry_check}
use Rattle.flash.specs.Steps.{closing}
use Rattle.header.specs.Checks.{tags_check, coverage_check, header_check}
use Rattle.header.specs.Lookup.{lookup_from, lookup}
use Rattle.header.specs.Numbers.{number_at}
use Rattle.header.specs.Walk.{step_at, walk_in, walk}
use Rattle.slots.specs.Exchange.{source, target, next_flag, exchange_step}
use Rattle.slots.specs.Flags.{half, with_half, flag_at, flag, tab, flags, well_formed, lowest_unfinished, flag_step, flag_step_of}
use Rattle.slots.specs.Places.{offset, bytes_at, image_of}
use Rattle.slots.specs.Trailers.{sound_with}
use Rattle.loader.specs.Decisions.{staged_decision, decision, next_step}
use Rattle.paper_cases.specs.Cases.{Case, cases, answer_to, Proved}

answered : map (λ (c : Case). answer_to c.input) cases ≡ map (λ (c : Case). c.says) cases
unfolding number_at step_at walk_in walk lookup_from lookup tags_check coverage_check header_check
    same all placed disjoint geometry_check closing sound offset bytes_at image_of half flag_at flag tab flags well_formed lowest_unfinished
    sound_with source target next_flag with_half flag_step flag_step_of exchange_step staged_decision decision next_step
answered = refl

-- where two maps of a list are equal, the functions are at each of its elements
agree : {A B : Type 0} (f g : A → B) (l : List A) → map f l ≡ map g l → (x : A) → Memᴰ x l → f x ≡ g x
agree f g [] e x m = absurd (Memᴰ.not-nil m)
agree f g (y ∷ l) e x m =
    ⊎_elim (λ q. let h : f y ≡ g y = cc in cc) (λ r. agree f g l (cc) x r) (Memᴰ.cases_cons m)

pub proved : Proved
proved = agree (λ (c : Case). answer_to c.input) (λ (c : Case). c.says) cases answered
