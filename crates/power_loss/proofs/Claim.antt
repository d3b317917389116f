-- Demand 3, proved: the first list from a triggered update, the second from what the first left. Assumes nothing.
use Prim.Native.Nat.{ℕ, ◌+◌, ◌-◌, ◌*◌, ◌≤◌}
use mathlib.Core.Bool.{Bool, true, false, cond}
use mathlib.Core.List.{List}
use mathlib.Core.Logic.{inl, inr}
use mathlib.Core.Path.{◌≡◌, refl, ◌∙◌}
use native.Mathlib.Omega.{arith}
use borrow.Author.Tests.{eqb-true, lt-ltb}
use lib.Dec.{eqb}
use lib.ListN.{length}
use Rattle.compare.specs.Compare.{all}
use Rattle.compare.proofs.Tests.{by_test, and_left, and_right}
use Rattle.flash.specs.Geometry.{geometry_check}
use Rattle.flash.specs.Valid.{Valid}
use Rattle.flash.specs.declared.geometry.Geometry.{Geometry}
use Rattle.flash.proofs.Areas.{valid}
use Rattle.header.specs.Checks.{header_check, version_in}
use Rattle.slots.specs.Flags.{new, flags}
use Rattle.slots.specs.Places.{offset, bytes_at, image_of, trailer_of}
use Rattle.slots.specs.Trailers.{flag_count, renewed_to, renew, renewal_of}
use Rattle.std.specs.Prelude.{Ok, Err, None}
use Rattle.slots.specs.declared.places.Place.TheVariants.{Sector}
use Rattle.slots.specs.declared.places.Slot.TheVariants.{Boot, Update}
use Rattle.slots.specs.declared.places.Slot.{Slot}
use Rattle.slots.proofs.Exchanging.{source_at, target_at}
use Rattle.loader.specs.Checks.{Checks, version_rule, image_checks}
use Rattle.loader.specs.Requests.{swap_begun, triggering, trigger_answer}
use Rattle.loader.specs.States.{updating, testing, staged, on_trial}
use Rattle.power_loss.specs.Demand.{other, Exchanged, MayBegin, Returned, Updated, DemandThree, NothingIsLost}
use Rattle.power_loss.specs.Histories.{Event}
use Rattle.power_loss.specs.PowerUps.{Ended}
use Rattle.power_loss.proofs.Contents.{following, contents_start, contents_end}
use Rattle.power_loss.proofs.Ends.{new-flags, renewed_sound}
use Rattle.power_loss.proofs.Exchange.{never_same}
use Rattle.power_loss.proofs.Images.{image-same}
use Rattle.power_loss.proofs.Invariant.{Setting, Phase, renewing, exchanging, Over, copy-most, cost}
use Rattle.power_loss.proofs.Lists.{ended, safe}
use Rattle.power_loss.proofs.OneSector.{kept_self}
use Rattle.power_loss.proofs.Renewal.{renew-most, renew-none}
use Rattle.power_loss.proofs.Runs.{three_each, end_most}
use Rattle.power_loss.proofs.Weights.{ones, begun_weighed, redone_cuts}

-- ---- what trigger's answer says

record Ready (g : Geometry) (f : List ℕ) : Type 0 where
  ok : geometry_check g (length f) ≡ 0
  is-staged : staged g f ≡ true
  is-new : all new (flags g.count (trailer_of g f Update)) ≡ true

finished_renewed : (g : Geometry) (f : List ℕ) (s : Slot) (x : ℕ) → renewal_of g f s x ≡ None
    → renewed_to (trailer_of g f s) (flag_count g s) x ≡ true
unfolding renew
finished_renewed g f s x = by_test (λ w. w ≡ None → renewed_to (trailer_of g f s) (flag_count g s) x ≡ true)
    (renewed_to (trailer_of g f s) (flag_count g s) x) (λ e q. e) (λ e q. never_same (cc))

ready : (g : Geometry) (f : List ℕ) → trigger_answer g f ≡ Ok None → Ready g f
unfolding trigger_answer triggering renewed_to
ready g f = go (eqb (geometry_check g (length f)) 0) refl (swap_begun g f) (on_trial g f)
  where
    go : (x : Bool) → eqb (geometry_check g (length f)) 0 ≡ x → (y z : Bool)
        → cond x (cond y (Err 22) (cond z (Err 21) (Ok (renewal_of g f Update updating)))) (Err (geometry_check g (length f))) ≡ Ok None
        → Ready g f
    go true e false false w =
        let none : renewal_of g f Update updating ≡ None = cc in
        let q = finished_renewed g f Update updating none in
        record {
          ok = eqb-true (geometry_check g (length f)) 0 e;
          is-staged = and_left (staged g f) (all new (flags g.count (trailer_of g f Update))) q;
          is-new = and_right (staged g f) (all new (flags g.count (trailer_of g f Update))) q;
        }
    go true e false true w = never_same (cc)
    go true e true z w = never_same (cc)
    go false e y z w = never_same (cc)

module _ (checks : Checks) (sig : List ℕ → Bool) (g : Geometry) (f₀ : List ℕ) (tr : MayBegin checks sig g f₀) where
  -- ---- the first list

  rd : Ready g f₀
  rd = ready g f₀ tr.finished

  v : Valid g (length f₀)
  v = valid g (length f₀) rd.ok

  abbrev t₁ : Setting
  t₁ = following checks g f₀ f₀

  start₁ : Phase t₁ f₀ false
  start₁ = exchanging 0 (3 * g.count - 1) (omega (arith, v.shape.count_min)) (record {
    base = record { ok = rd.ok; bytes = tr.bytes; kept = kept_self g f₀ };
    is-staged = rd.is-staged;
    reached = new-flags g.count (trailer_of g f₀ Update) rd.is-new;
    held = contents_start checks g f₀ (inr tr.replaces);
  })

  bound₁ : cost t₁ ones start₁ ≤ 9 * g.count + 4
  unfolding start₁
  bound₁ = omega (
    arith,
    v.shape.count_min,
    copy-most t₁ ones (offset g (target_at 0)) (bytes_at g f₀ (source_at 0)) (bytes_at g f₀ (target_at 0)),
    three_each t₁ 1 (3 * g.count - 1),
    end_most t₁ f₀,
  )

  -- ---- the second list, from what the first left

  module _ (f₁ : List ℕ) (ov : Over t₁ f₁) where
    swapped : Exchanged g f₀ f₁
    swapped = contents_end checks g f₀ f₁ ov.held

    pass₂ : checks.verdict (image_of g f₁ Update) (sig (image_of g f₁ Update)) ≡ 0
    pass₂ = rw (image-same g f₁ f₀ Update Boot (swapped Update)) (tr.passes Boot)

    abbrev t₂ : Setting
    t₂ = following checks g f₁ f₀

    start₂ : Phase t₂ f₁ false
    start₂ = renewing (record { base = ov.base; may = tt; idle = ov.idle; trial = ov.trial; held = contents_start checks g f₁ (inl ov.trial) })

    bound₂ : cost t₂ ones start₂ ≤ 9 * g.count + 4
    unfolding start₂
    bound₂ = omega (
      arith,
      renew-most ones g Update updating (trailer_of g f₁ Update),
      three_each t₂ 0 (3 * g.count),
      renew-none ones g Boot testing (trailer_of g f₁ Boot) (renewed_sound (trailer_of g f₁ Boot) testing ∙ ov.trial),
    )

    second : {h₂ : List Event} {f₂ : List ℕ} → Ended checks sig g f₁ h₂ f₂ → Returned checks sig g f₀ h₂ f₂
    second {h₂} {f₂} e =
        let y = ended checks sig g f₁ f₀ pass₂ start₂ e in
        record {
          bound = omega (arith, y.bill.le ones, bound₂, begun_weighed h₂, redone_cuts h₂);
          restored = λ s i h. contents_end checks g f₁ f₂ y.over.held s i h ∙ swapped (other s) i h ∙ twice s i;
          kept = y.over.base.kept;
        }
      where
        twice : (s : Slot) (i : ℕ) → bytes_at g f₀ (Sector (other (other s)) i) ≡ bytes_at g f₀ (Sector s i)
        twice Boot i = refl
        twice Update i = refl

  first : {h₁ : List Event} {f₁ : List ℕ} → Ended checks sig g f₀ h₁ f₁ → Updated checks sig g f₀ h₁ f₁
  first {h₁} {f₁} e =
      let y = ended checks sig g f₀ f₀ (tr.passes Update) start₁ e in
      record {
        bound = omega (arith, y.bill.le ones, bound₁, begun_weighed h₁, redone_cuts h₁);
        on_trial_lem = y.over.trial;
        exchanged = swapped f₁ y.over;
        kept = y.over.base.kept;
        safe = safe checks sig g f₁ f₀ (pass₂ f₁ y.over) (start₂ f₁ y.over);
        second = second f₁ y.over;
      }

-- Demand 3, for every list of cuts of both runs
pub demand_three : DemandThree
demand_three checks sig g f tr = record { safe = safe checks sig g f f (tr.passes Update) (start₁ checks sig g f tr); first = first checks sig g f tr }

-- .. with the loader's own checks
pub nothing_is_lost : NothingIsLost
unfolding version_rule
nothing_is_lost sig g f st = demand_three image_checks sig g f (record {
  bytes = st.bytes;
  finished = st.finished;
  passes = st.passes;
  replaces = rw (lt-ltb (version_in (image_of g f Boot)) (version_in (image_of g f Update)) st.higher)
      (either (eqb (header_check (image_of g f Boot)) 0));
})
  where
    either : (c : Bool) → ◌≡◌ {A = ℕ} (cond c 0 0) 0
    either true = refl
    either false = refl
