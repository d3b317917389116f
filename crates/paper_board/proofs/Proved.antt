-- The paper's board: the premises of demand 3, and the twenty steps.
-- Assumes nothing.
use Prim.Native.Nat.{ℕ, zero, suc}
use mathlib.Core.Bool.{Bool, true, cond, ◌&&◌, ◌||◌}
use mathlib.Core.List.{List, [], ◌∷◌}
use mathlib.Core.Logic.{⊎_elim}
use mathlib.Core.Path.{◌≡◌, refl, sym, subst, fun_ext}
use native.Mathlib.Omega.{arith}
use borrow.Author.Tests.{ltb-true}
use lib.Dec.{ltb}
use Rattle.compare.specs.Compare.{same, all}
use Rattle.compare.proofs.Sameness.{same_equal, same_self}
use Rattle.compare.proofs.Tests.{by_test, and_left, and_right, or_cases}
use Rattle.flash.specs.Bytes.{blank, overlay, ands, write}
use Rattle.flash.specs.Cuts.{Bytes, sound}
use Rattle.flash.specs.Geometry.{placed, disjoint, geometry_check}
use Rattle.flash.specs.Steps.{sector_start, trailer_byte, mark_place, closing, step_check, flash_after}
use Rattle.header.specs.Checks.{tags_check, coverage_check, header_check, version_in}
use Rattle.header.specs.Lookup.{lookup_from, lookup, view_of}
use Rattle.header.specs.Numbers.{number_at}
use Rattle.header.specs.Types.{digest_type}
use Rattle.header.specs.Walk.{step_at, walk_in, walk}
use Rattle.image.specs.Verdict.{digest_of, verdict}
use Rattle.slots.specs.Exchange.{source, target, next_flag, exchange_step}
use Rattle.slots.specs.Flags.{half, with_half, flag_at, flag, tab, flags, well_formed, lowest_unfinished, flag_step, flag_step_of}
use Rattle.slots.specs.Places.{offset, bytes_at, image_of}
use Rattle.slots.specs.Trailers.{state_at, sound_with, renewed_to, all_but_state, renew}
use Rattle.std.specs.Prelude.{Ok, None}
use Rattle.slots.specs.declared.places.Slot.{Slot}
use Rattle.slots.specs.declared.places.Slot.TheVariants.{Boot, Update}
use Rattle.loader.specs.Checks.{version_rule}
use Rattle.loader.specs.Decisions.{boot_or, go_back, passed_over, spend, finish, staged_decision, decision, next_step}
use Rattle.loader.specs.Requests.{swap_begun, triggering, trigger_answer}
use Rattle.loader.specs.Answers as A
use Rattle.runner.specs.Counts.{roomy, counts_check}
use Rattle.runner.specs.Runs.{Outcome, all_updated, meets, run_for, run_check, run_of}
use Rattle.power_loss.specs.Demand.{Triggered}
use Rattle.power_loss.proofs.Claim.{nothing_is_lost}
use Rattle.paper_board.specs.Board.{covered, image, digest_one, digest_two, one, two, geometry, board, signed_all, unused, run}
use Rattle.paper_board.specs.Board.{twenty_steps, PaperBoard}
use Rattle.paper_board.proofs.Digests.{digest-one, digest-two}

-- ---- both images pass

passing : (i d : List ℕ) → header_check i ≡ 0 → view_of i digest_type ≡ d → digest_of i ≡ d → verdict i true ≡ 0
unfolding verdict
passing i d h v e = rw (h, v, e) (simp (same_self d))

one_passes : verdict one true ≡ 0
unfolding covered image one number_at step_at walk_in walk lookup_from lookup tags_check coverage_check header_check
one_passes = passing one digest_one refl refl digest-one

two-passes : verdict two true ≡ 0
unfolding covered image two number_at step_at walk_in walk lookup_from lookup tags_check coverage_check header_check
two-passes = passing two digest_two refl refl digest-two

boot_is : image_of geometry board Boot ≡ one
unfolding covered image one two board image_of
boot_is = refl

update_is : image_of geometry board Update ≡ two
unfolding covered image one two board image_of
update_is = refl

passes : (s : Slot) → verdict (image_of geometry board s) true ≡ 0
passes Boot = rw boot_is one_passes
passes Update = rw update_is two-passes

-- ---- the premises

one-first : version_in one ≡ 1
unfolding covered image one number_at step_at walk_in walk lookup_from lookup tags_check coverage_check header_check
one-first = refl

two-second : version_in two ≡ 2
unfolding covered image two number_at step_at walk_in walk lookup_from lookup tags_check coverage_check header_check
two-second = refl

-- a list of bytes, as a test
small : List ℕ → Bool
small [] = true
small (x ∷ l) = ltb x 256 && small l

small_bytes : (l : List ℕ) → small l ≡ true → Bytes l
unfolding small
small_bytes [] e i = omega arith
small_bytes (x ∷ l) e zero = ltb-true x 256 (and_left (ltb x 256) (small l) e)
small_bytes (x ∷ l) e (suc i) = small_bytes l (and_right (ltb x 256) (small l) e) i

small_board : small board ≡ true
unfolding covered image one two board small
small_board = refl

finished : trigger_answer geometry board ≡ Ok None
unfolding covered image one two board trigger_answer triggering swap_begun renew renewed_to sound_with sound same all half flag_at flag tab flags
    offset bytes_at closing placed disjoint geometry_check
finished = refl

premises : Triggered signed_all geometry board
premises =
    record {
      bytes = small_bytes board small_board;
      finished = finished;
      passes = passes;
      higher = rw (boot_is, update_is, one-first, two-second) (omega arith);
    }

-- ---- the run: with the verdicts on the two images looked up, so that it computes no digest again

looked : List ℕ → Bool → ℕ
looked i signed = cond (signed && (same i one || same i two)) 0 (verdict i signed)

looked_is : looked ≡ verdict
unfolding looked
looked_is =
    fun_ext (λ i. fun_ext (λ signed.
    by_test (λ (n : ℕ). n ≡ verdict i signed) (signed && (same i one || same i two))
    (λ e. sym (rw (and_left signed _ e) (either i (and_right signed _ e))))
    (λ e. refl)))
  where
    either : (i : List ℕ) → (same i one || same i two) ≡ true → verdict i true ≡ 0
    either i e =
        ⊎_elim (λ p. rw (same_equal i one p) one_passes) (λ p. rw (same_equal i two p) two-passes) (or_cases (same i one) (same i two) e)

abbrev with_verdict : (List ℕ → Bool → ℕ) → Outcome
with_verdict v = run_of (record { verdict = v; acceptance = version_rule }) geometry 4096 true true board unused

record Ran (o : Outcome) : Type 0 where
  steps : o.steps ≡ twenty_steps
  boots : o.answer ≡ A.Boot 0
  version : version_in (image_of geometry o.flash Boot) ≡ 2

looked_run : Ran (with_verdict looked)
unfolding covered image one two board looked version_rule number_at step_at walk_in walk lookup_from lookup tags_check coverage_check header_check
    run_of run_check roomy counts_check run_for meets all_updated next_step decision staged_decision finish spend passed_over boot_or go_back
    source target next_flag exchange_step half with_half flag_at flag tab flags well_formed lowest_unfinished flag_step flag_step_of offset bytes_at image_of
    state_at sound_with renewed_to all_but_state renew same all blank overlay ands write sound placed disjoint geometry_check sector_start trailer_byte
    mark_place closing step_check flash_after
looked_run = record { steps = refl; boots = refl; version = refl }

ran : Ran run
ran = subst (λ (v : List ℕ → Bool → ℕ). Ran (with_verdict v)) looked_is looked_run

pub paper_board_lem : PaperBoard
paper_board_lem =
    record {
      premises = premises;
      survives = nothing_is_lost signed_all geometry board premises;
      steps = ran.steps;
      boots = ran.boots;
      version = ran.version;
    }
