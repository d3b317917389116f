-- The walk ends and stays within its bounds, and a lookup agrees with the list of tags, on every header.
-- Assumes nothing.
use Prim.Native.Nat.{ℕ, ◌-◌, ◌%◌}
use mathlib.Core.Bool.{cond}
use mathlib.Core.List.{List, [], ◌∷◌}
use mathlib.Core.Logic.{◌⊎◌}
use mathlib.Core.Path.{◌≡◌, refl, sym, ap, ◌∙◌}
use lib.Dec.{eqb}
use borrow.Author.Tests.{eqb-true}
use Rattle.std.specs.Prelude.{Some, Result, Ok, Err}
use Rattle.header.specs.Lookup.{first_in, lookup, of_kind, LookupsAgree}
use Rattle.header.specs.Walk.{Walk, walk, WalksStay}
use Rattle.header.specs.declared.tags.Tag.{Tag}
use Rattle.header.proofs.Lookups.{not_found, long_enough, looked_up}
use Rattle.header.proofs.Numbers.{low_byte}
use Rattle.header.proofs.Order.{each_good}
use Rattle.compare.proofs.Tests.{by_test}
use Rattle.header.proofs.Walk.{walk_step, walk_ind}

pub stays : WalksStay
stays s e p =
    record {
      steps = walk_step s e p;
      ends =
          walk_ind s e (λ (q : ℕ) (w : Walk). (w.number ≡ 13) ⊎ (w.number ≡ 25)) (λ q n d. d) (λ q r l m ih. ih) (λ q t g ih. ih) p;
      stands = λ t m. (each_good s e p t m).is;
      behind = λ t m. (each_good s e p t m).starts;
      within = λ t m. (each_good s e p t m).inside;
      leads = λ t m. (each_good s e p t m).leads;
      typed = λ t m. (each_good s e p t m).typed;
      unpadded = λ t m. (each_good s e p t m).unpadded;
    }

-- what a lookup finds is the head of the tags of its type
abbrev pub head_of : List Tag → ℕ → Result Tag ℕ
head_of [] n = Err n
head_of (t ∷ ts) n = Ok t

pub head_of_lem : (k : ℕ) (ts : List Tag) (n : ℕ) → first_in (Some k) ts n ≡ head_of (of_kind k ts) n
head_of_lem k [] n = refl
head_of_lem k (t ∷ ts) n =
    by_test (λ (r : List Tag). cond (eqb t.kind k) (Ok t) (first_in (Some k) ts n) ≡ head_of r n) (eqb t.kind k)
    (λ b. rw b) (λ b. rw b (head_of_lem k ts n))

-- a tag that is found has the type
typed : (k : ℕ) (ts : List Tag) (n : ℕ) {t : Tag} → first_in (Some k) ts n ≡ Ok t → t.kind ≡ k
typed k [] n {t} = λ h. not_found h
typed k (u ∷ ts) n {t} =
    by_test (λ (r : Result Tag ℕ). r ≡ Ok t → t.kind ≡ k) (eqb u.kind k)
    (λ b h. let same : u ≡ t = cc in sym (ap (λ (t : Tag). t.kind) same) ∙ eqb-true _ _ b)
    (λ b h. typed k ts n h)

pub agrees : LookupsAgree
agrees h k =
    record {
      found = λ t ts l e. long_enough h k l ∙ head_of_lem k (walk h 256 8).tags (walk h 256 8).number ∙ rw e;
      absent = λ l e. long_enough h k l ∙ head_of_lem k (walk h 256 8).tags (walk h 256 8).number ∙ rw e;
      never_0000 = λ t z e. (looked_up h k e).good.typed (of_type t e ∙ z);
      never_low-FF = λ t bytes f e.
          let g = (looked_up h k e).good in
          g.unpadded (sym (low_byte h (t.at - 4) (bytes _)) ∙ ap (λ (t : Tag). t.kind % 256) (sym g.is) ∙ ap (λ (n : ℕ). n % 256) (of_type t e) ∙ f);
    }
  where
    of_type : (t : Tag) → lookup h k ≡ Ok t → t.kind ≡ k
    of_type t e = typed k (walk h 256 8).tags (walk h 256 8).number (sym (long_enough h k (looked_up h k e).long) ∙ e)
