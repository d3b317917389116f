-- Lookups, each from where the last one's answer goes on, give the tags of the walk.
-- Assumes nothing.
use Prim.Native.Nat.{ℕ, zero, suc, ◌+◌, ◌-◌, ◌*◌, ◌<◌, ◌≤◌}
use mathlib.Core.Bool.{Bool, true, false, cond}
use mathlib.Core.List.{List, [], ◌∷◌}
use mathlib.Core.Path.{◌≡◌, refl, sym, ap, ◌∙◌}
use native.Mathlib.Omega.{arith}
use lib.ListN.{length}
use Rattle.std.specs.Prelude.{Option, Some, None, Ok}
use Rattle.header.specs.Listing.{listing, TagsListed}
use Rattle.header.specs.Lookup.{matches, first, lookup_from, lookup, of_kind}
use Rattle.header.specs.Walk.{Walk, walk}
use Rattle.header.specs.declared.tags.Tag.{Tag}
use Rattle.header.proofs.Lookups.{stops, too_short, bad_start, walked, found_from}
use Rattle.header.proofs.Walk.{Good, meets, step_end, walk_ind}

-- a walk meets a tag in every four bytes at most
few : (s : List ℕ) (e p : ℕ) → 4 * length (walk s e p).tags ≤ e - p
few s e =
    walk_ind s e (λ (q : ℕ) (w : Walk). 4 * length w.tags ≤ e - q)
    (λ q n d. omega arith)
    (λ q r l m ih. omega arith)
    (λ q t g ih. omega arith)

-- the wanted ones of some tags
abbrev wanted_of : Option ℕ → List Tag → List Tag
wanted_of v [] = []
wanted_of v (t ∷ ts) = cond (matches v t.kind) (t ∷ wanted_of v ts) (wanted_of v ts)

any_wanted : (ts : List Tag) → wanted_of None ts ≡ ts
any_wanted [] = refl
any_wanted (t ∷ ts) = ap (λ (us : List Tag). t ∷ us) (any_wanted ts)

kind_wanted : (k : ℕ) (ts : List Tag) → wanted_of (Some k) ts ≡ of_kind k ts
kind_wanted k [] = refl
kind_wanted k (t ∷ ts) = rw (kind_wanted k ts)

-- a walk with its wanted tags only
abbrev chosen : Option ℕ → Walk → Walk
chosen v w = record { tags = wanted_of v w.tags; number = w.number }

module _ (h : List ℕ) (v : Option ℕ) (long : 256 ≤ length h) where
  -- places from which a lookup answers the same have the same list
  same_list : (k p q : ℕ) → lookup_from h p v ≡ lookup_from h q v → listing k h p v ≡ listing k h q v
  unfolding listing
  same_list zero p q e = refl
  same_list (suc k) p q e = rw e

  -- a list from place p, where the walk from there is w
  abbrev Lists : ℕ → Walk → Type 0
  Lists p w = 8 ≤ p → lookup_from h p v ≡ first v w → (k : ℕ) → length w.tags < k → listing k h p v ≡ chosen v w

  at_stop : (p n : ℕ) → Lists p (record { tags = []; number = n })
  unfolding listing
  at_stop p n l e zero room = absurd (omega arith)
  at_stop p n l e (suc k) room = rw e

  at_padding : (p q : ℕ) → p < q → q ≤ 256 → Lists q (walk h 256 q) → Lists p (walk h 256 q)
  at_padding p q a b ih l e k room =
      let same = walked h q v long (omega arith) b in
      same_list k p q (e ∙ sym same) ∙ ih (omega arith) same k room

  at_tag : (p : ℕ) (t : Tag) → Good h 256 p t → Lists t.next (walk h 256 t.next) → Lists p (meets t (walk h 256 t.next))
  unfolding listing
  at_tag p t g ih l e zero room = absurd (omega arith)
  at_tag p t g ih l e (suc k) room = go (matches v t.kind) e
    where
      same : lookup_from h t.next v ≡ first v (walk h 256 t.next)
      same = walked h t.next v long (omega arith) (omega arith)

      go :
          (b : Bool) →
          lookup_from h p v ≡ cond b (Ok t) (first v (walk h 256 t.next)) →
          listing (suc k) h p v ≡
          record {
            tags = cond b (t ∷ wanted_of v (walk h 256 t.next).tags) (wanted_of v (walk h 256 t.next).tags);
            number = (walk h 256 t.next).number;
          }
      go true e = rw e (ap (meets t) (ih (omega arith) same k (omega arith)))
      go false e = same_list (suc k) p t.next (e ∙ sym same) ∙ ih (omega arith) same (suc k) (omega arith)

  -- k lookups reach the end where so many tags do not fit before it
  listed : (k p : ℕ) → 8 ≤ p → p ≤ 256 → 256 < p + 4 * k → listing k h p v ≡ chosen v (walk h 256 p)
  listed k p a b c =
      walk_ind h 256 Lists (λ q n d. at_stop q n) at_padding at_tag p a (walked h p v long a b) k (omega (arith, few h 256 p))

-- a list is its first tag, and the list from where that leads
pub list_step :
    (h : List ℕ) (p : ℕ) (v : Option ℕ) (t : Tag) →
    8 ≤ p →
    lookup_from h p v ≡ Ok t →
    listing 63 h p v ≡ meets t (listing 63 h t.next v)
unfolding listing
list_step h p v t l e =
    let f = found_from h p v e in
    let rest = listed h v f.long in
    rw e
    (ap (meets t)
    (rest 62 t.next (omega arith) (omega arith) (omega arith) ∙ sym (rest 63 t.next (omega arith) (omega arith) (omega arith))))

-- a list of any type is the walk from its start
any_listed : (h : List ℕ) (p : ℕ) → 256 ≤ length h → 8 ≤ p → p ≤ 256 → listing 63 h p None ≡ walk h 256 p
any_listed h p long a b = listed h None long 63 p a b (omega arith) ∙ rw (any_wanted (walk h 256 p).tags)

pub tags-listed : TagsListed
unfolding lookup
tags-listed =
    record {
      old = λ h k. refl;
      short = too_short;
      outside = bad_start;
      «at-256» = λ h v long.
          walked h 256 v long (omega arith) (omega arith) ∙ stops h 256 256 v (step_end h 256 256 (omega arith));
      leads = λ h p v t e. let g = (found_from h p v e).good in (g.starts, (g.leads, omega arith));
      all = λ h long. any_listed h 8 long (omega arith) (omega arith);
      from_any = any_listed;
      of_kind_lem = λ h p k long a b. listed h (Some k) long 63 p a b (omega arith) ∙ rw (kind_wanted k (walk h 256 p).tags);
      most = λ h. omega (arith, few h 256 8);
    }
