-- When it is mid-swap, as document 01's "What the loader covers" has it. Claims: in mid-swap nothing is verified,
-- that is, the answer is the same under every verdict, every acceptance rule and every answer of the signature
-- checker; it is never a boot; and a swap is begun (22) exactly in mid-swap and where all flags are 0.
use Rattle.std.specs.Prelude.{ℕ, Bool, true, not, ◌&&◌, ◌||◌, List, ◌≡◌, eqb, length}
use Rattle.compare.specs.Compare.{all}
use Rattle.flash.specs.Geometry.{geometry_check}
use Rattle.flash.specs.declared.geometry.Geometry.{Geometry}
use Rattle.slots.specs.Flags.{new, updated, flags}
use Rattle.slots.specs.Places.{trailer_of}
use Rattle.slots.specs.declared.places.Slot.TheVariants.{Update}
use Rattle.loader.specs.Checks.{Checks}
use Rattle.loader.specs.Decisions.{next_step}
use Rattle.loader.specs.Requests.{swap_begun}
use Rattle.loader.specs.States.{staged}
use Rattle.loader.specs.Answers.{Answer}
use Rattle.loader.specs.Answers as A

-- UPDATE is sound with 70, flags neither all F nor all 0
unfoldable pub mid_swap : Geometry → List ℕ → Bool
mid_swap g f =
    let fs : List ℕ = flags g.count (trailer_of g f Update) in
    staged g f && not (all new fs) && not (all updated fs)

-- the answer: not where the geometry is refused
unfoldable pub mid_swap_answer : Geometry → List ℕ → Bool
mid_swap_answer g f = eqb (geometry_check g (length f)) 0 && mid_swap g f

abbrev pub NothingVerified : Type 0
NothingVerified = (g : Geometry) (f : List ℕ) → mid_swap g f ≡ true
    → (checks checks' : Checks) (a a' b b' : Bool) → next_step checks g f a b ≡ next_step checks' g f a' b'

-- a step with others behind it, or the refusal of ill-formed flags
abbrev pub StepOr20 : Answer → Type 0
StepOr20 (A.Step s) = Unit {0}
StepOr20 (A.LastStep s) = ⊥
StepOr20 (A.Boot why) = ⊥
StepOr20 (A.Refused n) = n ≡ 20

abbrev pub NeverBoots : Type 0
NeverBoots = (g : Geometry) (f : List ℕ) → mid_swap_answer g f ≡ true → (checks : Checks) (a b : Bool) → StepOr20 (next_step checks g f a b)

abbrev pub BegunExactlyThen : Type 0
BegunExactlyThen = (g : Geometry) (f : List ℕ) → geometry_check g (length f) ≡ 0
    → swap_begun g f ≡ (mid_swap_answer g f || (staged g f && all updated (flags g.count (trailer_of g f Update))))
