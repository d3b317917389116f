-- Document 01, "The next step": the order of decision. a and b are the signature checker's answers for BOOT and
-- UPDATE.
use Rattle.std.specs.Prelude.{ℕ, Bool, cond, not, ◌&&◌, List, Option, Some, None, eqb, length, get_or}
use Rattle.compare.specs.Compare.{all}
use Rattle.flash.specs.Geometry.{unless, geometry_check}
use Rattle.flash.specs.declared.geometry.Geometry.{Geometry}
use Rattle.flash.specs.declared.steps.Step.{Step}
use Rattle.flash.specs.declared.steps.Step.TheVariants.{Byte}
use Rattle.slots.specs.Exchange.{exchange_step}
use Rattle.slots.specs.Flags.{new, updated, flags, well_formed, lowest_unfinished}
use Rattle.slots.specs.Places.{image_of, trailer_of}
use Rattle.slots.specs.Trailers.{state_at, renewal_of}
use Rattle.slots.specs.declared.places.Slot.TheVariants.{Boot, Update}
use Rattle.loader.specs.Checks.{Checks}
use Rattle.loader.specs.States.{updating, spent, testing, staged, on_trial}
use Rattle.loader.specs.Answers.{Answer}
use Rattle.loader.specs.Answers as A

-- the step that is due, or what is answered where none is
abbrev pub or_else : Option Step → Answer → Answer
or_else (Some s) a = A.Step s
or_else None a = a

module _ (checks : Checks) (g : Geometry) (f : List ℕ) where
  abbrev boot_verdict : Bool → ℕ
  boot_verdict a = checks.verdict (image_of g f Boot) a

  abbrev update_verdict : Bool → ℕ
  update_verdict b = checks.verdict (image_of g f Update) b

  -- 6. BOOT passes: boot, with the number that UPDATE was passed over for, 0 for none; otherwise refuse
  unfoldable pub boot_or : Bool → ℕ → Answer
  boot_or a why = cond (eqb (boot_verdict a) 0) (A.Boot why) (A.Refused (boot_verdict a))

  -- 5. a return: UPDATE passes, and its trailer is renewed to 70; as it isn't sound with 70, that is never finished
  unfoldable pub go_back : Bool → Bool → Answer
  go_back a b = cond (eqb (update_verdict b) 0) (or_else (renewal_of g f Update updating) (boot_or a 0)) (boot_or a (update_verdict b))

  -- 3. the number that UPDATE is passed over for, 0 for none: it must pass and, if BOOT isn't on trial, be accepted
  -- in BOOT's place
  unfoldable pub passed_over : Bool → ℕ
  passed_over b =
      unless (eqb (update_verdict b) 0) (update_verdict b) (cond (on_trial g f) 0 (checks.acceptance (image_of g f Boot) (image_of g f Update)))

  -- the same, asked only where the progress is 0: so all flags are F
  abbrev pub why : Bool → ℕ → ℕ
  why b p = cond (eqb p 0) (passed_over b) 0

  -- 2. BOOT's trailer is renewed to t, the state in which the swap ends; when finished, Byte 30 to UPDATE's state,
  -- which is the last step before booting if BOOT passes
  unfoldable pub spend : Bool → Answer
  spend a = let s : Step = Byte (state_at g Update) spent in cond (eqb (boot_verdict a) 0) (A.LastStep s) (A.Step s)

  unfoldable pub finish : ℕ → Bool → Answer
  finish t a = or_else (renewal_of g f Boot t) (spend a)

  -- 1. flags ill-formed; 2. all flags 0; 3. all flags F, and UPDATE is passed over; 4. else the step of the lowest
  -- sector whose flag isn't 0, by its flag
  unfoldable pub staged_decision : ℕ → Bool → Bool → Answer
  staged_decision t a b =
      let fs : List ℕ = flags g.count (trailer_of g f Update) in
      cond (not (well_formed fs)) (A.Refused 20)
      (cond (all updated fs) (finish t a)
      (cond (all new fs && not (eqb (passed_over b) 0)) (boot_or a (passed_over b))
      (let i : ℕ = lowest_unfinished fs in A.Step (exchange_step g f i (get_or fs i 0)))))

  -- UPDATE is sound with 70: 1 to 4; otherwise 5, then 6
  unfoldable pub decision : Bool → Bool → Answer
  decision a b = cond (staged g f) (staged_decision testing a b) (cond (on_trial g f) (go_back a b) (boot_or a 0))

  -- the next step: the geometry's numbers 1 to 4 first
  unfoldable pub next_step : Bool → Bool → Answer
  next_step a b = cond (eqb (geometry_check g (length f)) 0) (decision a b) (A.Refused (geometry_check g (length f)))
