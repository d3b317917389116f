-- Laws of the header's checks.
-- Assumes nothing.
use Prim.Native.Nat.{ℕ, zero, suc, ◌+◌, ◌≤◌}
use mathlib.Core.Bool.{Bool, true, false, cond}
use mathlib.Core.List.{List, [], ◌∷◌, ◌++◌, map}
use mathlib.Core.Path.{◌≡◌, refl, ap}
use native.Mathlib.Omega.{arith}
use lib.Dec.{ltb, eqb, eqb-suc-zero}
use lib.ListN.{length, get_or}
use borrow.Author.Tests.{ltb-false, eqb-true, eqb-false, ne_eqb}
use Rattle.refusal.specs.Numbers.{number}
use Rattle.refusal.specs.declared.Refusal.{Refusal}
use Rattle.refusal.proofs.Told.{numbers_tell}
use Rattle.header.specs.Checks.{first_refusal, length_check, mark_check, size_of, size_check, walk_check, mandatory_check, Mandatory, mandatory, tags_check, coverage_check, header_check}
use Rattle.header.specs.Lookup.{of_kind}
use Rattle.header.specs.Types.{version_type, timestamp_type, digest_type, signature_type, firmware_type_type}
use Rattle.header.specs.Walk.{header_walk}
use Rattle.header.specs.declared.tags.Tag.{Tag}
use Rattle.compare.proofs.Tests.{by_test}

-- a refusal's number is not 0
pub refused : (r : Refusal) → eqb (number r) 0 ≡ false
refused r = ne_eqb (number r) 0 (numbers_tell.never_zero r)

pub first_one : (n : ℕ) → first_refusal (n ∷ []) ≡ n
first_one zero = refl
first_one (suc n) = simp (eqb-suc-zero n)

-- where the first number that is not 0 is 0, all are
pub zero_at : (ns : List ℕ) (k : ℕ) → first_refusal ns ≡ 0 → get_or ns k 0 ≡ 0
zero_at [] k e = refl
zero_at (n ∷ ns) zero e = by_test (λ (r : ℕ). r ≡ 0 → n ≡ 0) (eqb n 0) (λ t e. eqb-true _ _ t) (λ f e. e) e
zero_at (n ∷ ns) (suc k) e =
    by_test (λ (r : ℕ). r ≡ 0 → get_or ns k 0 ≡ 0) (eqb n 0) (λ t e. zero_at ns k e) (λ f e. absurd (eqb-false _ _ f e)) e

-- checks one after the other are the first of them, then the last; that one counts where the others pass
pub then_last : (ns : List ℕ) (m n : ℕ) → (first_refusal ns ≡ 0 → m ≡ n) → first_refusal (ns ++ (m ∷ [])) ≡ first_refusal (first_refusal ns ∷ n ∷ [])
then_last [] m n e = ap (λ (m : ℕ). first_refusal (m ∷ [])) (e refl)
then_last (k ∷ ns) m n e = go (eqb k 0) refl (then_last ns m n) e
  where
    go :
        (b : Bool) →
        eqb k 0 ≡ b →
        ((first_refusal ns ≡ 0 → m ≡ n) → first_refusal (ns ++ (m ∷ [])) ≡ first_refusal (first_refusal ns ∷ n ∷ [])) →
        (cond b (first_refusal ns) k ≡ 0 → m ≡ n) →
        cond b (first_refusal (ns ++ (m ∷ []))) k ≡ first_refusal (cond b (first_refusal ns) k ∷ n ∷ [])
    go true q ih e = ih e
    go false q ih e = rw q

-- the only tag of a mandatory type, and its length
pub record Once (n : ℕ) (ts : List Tag) : Type 0 where
  pub tag : Tag
  pub is : ts ≡ tag ∷ []
  pub long : tag.len ≡ n

single : (n : ℕ) (ts : List Tag) → mandatory_check n ts ≡ 0 → Once n ts
single n [] e = absurd (omega arith)
single n (t ∷ []) e =
    record { tag = t; is = refl; long = by_test (λ (r : ℕ). r ≡ 0 → t.len ≡ n) (eqb t.len n) (λ b e. eqb-true _ _ b) (λ b e. absurd (omega arith)) e }
single n (t ∷ (u ∷ ts)) e = absurd (omega arith)

-- each mandatory type has its one tag
pub record AllOnce (ts : List Tag) : Type 0 where
  pub version : Once 4 (of_kind version_type ts)
  pub timestamp : Once 8 (of_kind timestamp_type ts)
  pub digest : Once 32 (of_kind digest_type ts)
  pub signature : Once 64 (of_kind signature_type ts)
  pub «firmware-type» : Once 2 (of_kind firmware_type_type ts)

pub all_once : (ts : List Tag) → tags_check ts ≡ 0 → AllOnce ts
unfolding tags_check
all_once ts e =
    let zeros = zero_at (map (λ (m : Mandatory). mandatory_check m.len (of_kind m.kind ts)) mandatory) in
    record {
      version = single 4 _ (zeros 0 e);
      timestamp = single 8 _ (zeros 1 e);
      digest = single 32 _ (zeros 2 e);
      signature = single 64 _ (zeros 3 e);
      «firmware-type» = single 2 _ (zeros 4 e);
    }

size_fits : (i : List ℕ) → size_check i ≡ 0 → 256 + size_of i ≤ length i
size_fits i =
    by_test (λ (r : ℕ). r ≡ 0 → 256 + size_of i ≤ length i) (eqb (size_of i) 0) (λ t e. absurd (omega arith))
    (λ f. by_test (λ (r : ℕ). r ≡ 0 → 256 + size_of i ≤ length i) (ltb (length i) (256 + size_of i)) (λ t e. absurd (omega arith))
    (λ g e. ltb-false _ _ g))

-- what an image has whose header passes
pub record Passed (i : List ℕ) : Type 0 where
  pub long : 256 ≤ length i
  pub firmware : 256 + size_of i ≤ length i
  pub tags : AllOnce (header_walk i).tags
  pub coverage : coverage_check (header_walk i).tags ≡ 0

pub passed : (i : List ℕ) → header_check i ≡ 0 → Passed i
unfolding header_check
passed i e =
    let w = header_walk i in
    let zeros = zero_at (length_check i ∷ mark_check i ∷ size_check i ∷ walk_check w.number ∷ tags_check w.tags ∷ coverage_check w.tags ∷ []) in
    record {
      long = by_test (λ (r : ℕ). r ≡ 0 → 256 ≤ length i) (ltb (length i) 256) (λ t e. absurd (omega arith)) (λ f e. ltb-false _ _ f) (zeros 0 e);
      firmware = size_fits i (zeros 2 e);
      tags = all_once _ (zeros 4 e);
      coverage = zeros 5 e;
    }

pub firmware-fits : (i : List ℕ) → header_check i ≡ 0 → 256 + size_of i ≤ length i
firmware-fits i e = (passed i e).firmware
