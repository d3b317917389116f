-- Bytes that stand at a place of longer ones: their numbers, their tags and their walk are read there, moved by that place.
-- Assumes nothing.
use Prim.Native.Nat.{ℕ, zero, suc, ◌+◌, ◌-◌, ◌*◌, ◌/◌, ◌%◌, ◌^◌, ◌<◌, ◌≤◌}
use mathlib.Core.Bool.{true, not, ◌&&◌}
use mathlib.Core.List.{List, [], ◌∷◌, ◌++◌, map, append_assoc}
use mathlib.Core.Logic.{◌⊎◌}
use mathlib.Core.Path.{◌≡◌, refl, sym, ap, ◌∙◌}
use native.Mathlib.Nat.{add-zero, pow-succ'}
use native.Mathlib.Omega.{arith}
use lib.Dec.{eqb}
use lib.ListN.{length, get_or, take, drop, replicate, get_or-append, length-drop}
use lib.Seq.{get_or-drop, drop-drop, drop_at, take_at, take-append-le, drop-append-le}
use borrow.Author.Tests.{eqb-true}
use Rattle.header.specs.Numbers.{byte_at, number_at}
use Rattle.header.specs.Walk.{tag_at, step_at, Walk, on_step, walk}
use Rattle.header.specs.declared.tags.Tag.{Tag}
use Rattle.std.specs.Prelude.{Ok}
use Rattle.header.specs.declared.tags.WalkStep.TheVariants.{Met}
use Rattle.writer.specs.Custom.{named, tags_of, well_formed}
use Rattle.writer.specs.Layout.{le_bytes, tag_bytes}
use Rattle.compare.proofs.Tests.{never, and_left, and_right}
use Rattle.header.proofs.Walk.{Good, stopped, meets, step_end, step-padding, step_met, walk_step, walk_ind}
use Rattle.writer.proofs.Run.{gap}
use Rattle.writer.proofs.Stores.{length-le}
use Rattle.read_back.specs.ReadBack.{tag_of, moved, content_at}

-- from a rest to a later one
pub rest_at : (i : List ℕ) (p n : ℕ) (s : List ℕ) → drop p i ≡ s → drop (p + n) i ≡ drop n s
rest_at i p n s e = rw (← e) (sym (drop-drop n p i))

pub byte_at_lem : (i : List ℕ) (p x : ℕ) (s : List ℕ) → drop p i ≡ x ∷ s → byte_at i p ≡ x
byte_at_lem i p x s e = sym (rw add-zero at (get_or-drop p i 0 0)) ∙ ap (λ (l : List ℕ). get_or l 0 0) e

-- a number that stands at a place
pub number_at_lem : (n : ℕ) (i : List ℕ) (p x : ℕ) (rest : List ℕ) → x < 256 ^ n → drop p i ≡ le_bytes n x ++ rest → number_at n i p ≡ x
unfolding number_at le_bytes
number_at_lem zero i p x rest l e = omega arith
number_at_lem (suc n) i p x rest l e =
    let low : byte_at i p ≡ x % 256 = byte_at_lem i p (x % 256) (le_bytes n (x / 256) ++ rest) e in
    let small : x < 256 * 256 ^ n = rw (← pow-succ') l in
    let high : number_at n i (p + 1) ≡ x / 256 = number_at_lem n i (p + 1) (x / 256) rest (omega arith) (rest_at i p 1 _ e) in
    omega arith

low_byte : (i : List ℕ) (p k : ℕ) (s : List ℕ) → drop p i ≡ le_bytes 2 k ++ s → byte_at i p ≡ k % 256
unfolding le_bytes
low_byte i p k s e = byte_at_lem i p (k % 256) _ e

two-further : (i : List ℕ) (p : ℕ) (a s : List ℕ) → length a ≡ 2 → drop p i ≡ a ++ s → drop (p + 2) i ≡ s
two-further i p a s l e = rest_at i p 2 _ e ∙ drop_at a s 2 l

-- the walk that meets some tags first
abbrev pub prefixed : List Tag → Walk → Walk
prefixed ts w = record { tags = ts ++ w.tags; number = w.number }

-- a type that a tag can have
pub record Type-ok (k : ℕ) : Type 0 where
  pub fits : k < 65536
  pub typed : k ≡ 0 → ⊥
  pub unpadded : k % 256 ≡ 0xFF → ⊥

pub small_type : (k : ℕ) → 0 < k → k < 0xFF → Type-ok k
small_type k some small = record { fits = omega arith; typed = omega arith; unpadded = omega arith }

-- A tag that is written at place p, with the rest behind it at place q: the walk meets it and goes on behind it, and its content is there.
pub record Laid (i : List ℕ) (e p q k : ℕ) (c rest : List ℕ) : Type 0 where
  pub walked : walk i e p ≡ meets (tag_of k p (length c)) (walk i e q)
  pub content : take (length c) (drop (p + 4) i) ≡ c
  pub after : drop q i ≡ rest

pub laid :
    (i : List ℕ) (e p q k : ℕ) (c rest : List ℕ) →
    drop p i ≡ tag_bytes k c ++ rest →
    length c < 65536 →
    q ≡ p + 4 + length c →
    q ≤ e →
    Type-ok k →
    Laid i e p q k c rest
unfolding tag_bytes
laid i e p q k c rest b s n fits ok =
    let type-bytes : drop p i ≡ le_bytes 2 k ++ (le_bytes 2 (length c) ++ (c ++ rest)) = b ∙ simp append_assoc in
    let length-bytes : drop (p + 2) i ≡ le_bytes 2 (length c) ++ (c ++ rest) = two-further i p (le_bytes 2 k) _ (length-le 2 k) type-bytes in
    let four : p + 4 ≡ p + 2 + 2 = omega arith in
    let there : drop (p + 4) i ≡ c ++ rest = rw four (two-further i (p + 2) (le_bytes 2 (length c)) (c ++ rest) (length-le 2 (length c)) length-bytes) in
    let kind : number_at 2 i p ≡ k = number_at_lem 2 i p k _ ok.fits type-bytes in
    let size : number_at 2 i (p + 2) ≡ length c = number_at_lem 2 i (p + 2) (length c) _ s length-bytes in
    let low : byte_at i p ≡ k % 256 = low_byte i p k _ type-bytes in
    let step : step_at i e p ≡ Ok (Met (tag_at i p)) =
    step_met i e p (omega arith) (λ f. ok.unpadded (sym low ∙ f)) (λ z. ok.typed (sym kind ∙ z)) in
    record {
      walked = walk_step i e p ∙ ap (on_step (walk i e)) step ∙ rw (kind, size, n);
      content = rw there (take_at c rest (length c) refl);
      after = rw n (rest_at i (p + 4) (length c) _ there ∙ drop_at c rest (length c) refl);
    }

-- padding up to 256 ends the walk
pub padding-walked :
    (i : List ℕ) (k p : ℕ) (rest : List ℕ) →
    drop p i ≡ replicate k 0xFF ++ rest →
    p + k ≡ 256 →
    walk i 256 p ≡ stopped 25
padding-walked i zero p rest e n = walk_step i 256 p ∙ ap (on_step (walk i 256)) (step_end i 256 p (omega arith))
padding-walked i (suc k) p rest e n =
    walk_step i 256 p
    ∙ ap (on_step (walk i 256)) (step-padding i 256 p (omega arith) (byte_at_lem i p 0xFF (replicate k 0xFF ++ rest) e))
    ∙ padding-walked i k (p + 1) rest (rest_at i p 1 _ e) (omega arith)

-- A run s of custom tags that stands at place o.
module _ (i : List ℕ) (o : ℕ) (s rest : List ℕ) (stands : drop o i ≡ s ++ rest) (fits : o + length s ≤ 256) where
  byte_in : (q : ℕ) → q < length s → byte_at i (o + q) ≡ byte_at s q
  byte_in q l = sym (get_or-drop o i q 0) ∙ rw stands (get_or-append s rest 0 q l)

  number_in : (n q : ℕ) → q + n ≤ length s → number_at n i (o + q) ≡ number_at n s q
  unfolding number_at
  number_in zero q l = refl
  number_in (suc n) q l =
      let m : o + q + 1 ≡ o + (q + 1) = omega arith in
      rw (m, byte_in q (omega arith), number_in n (q + 1) (omega arith))

  step_in : (p : ℕ) (t : Tag) → Good s (length s) p t → t.at ≡ p + 4 → step_at i 256 (o + p) ≡ Ok (Met (moved o t))
  step_in p t g a =
      let place : t.at - 4 ≡ p = omega arith in
      let is : t ≡ tag_at s p = rw place at g.is in
      let size : t.len ≡ number_at 2 s (p + 2) = ap (λ (t : Tag). t.len) is in
      let kind : number_at 2 i (o + p) ≡ number_at 2 s p = number_in 2 p (omega (arith, g.inside)) in
      let m : o + p + 2 ≡ o + (p + 2) = omega arith in
      let len : number_at 2 i (o + p + 2) ≡ number_at 2 s (p + 2) = rw m (number_in 2 (p + 2) (omega (arith, g.inside))) in
      let n : o + p + 4 ≡ o + (p + 4) = omega arith in
      let on : o + (p + 4) + number_at 2 s (p + 2) ≡ o + (p + 4 + number_at 2 s (p + 2)) = omega arith in
      let tag : tag_at i (o + p) ≡ moved o (tag_at s p) = rw (kind, len, n, on) in
      let low : byte_at i (o + p) ≡ byte_at s p = byte_in p (omega (arith, g.inside)) in
      step_met i 256 (o + p) (omega (arith, g.inside)) (λ f. g.unpadded (rw place (sym low ∙ f)))
      (λ z. g.typed (ap (λ (t : Tag). t.kind) is ∙ sym kind ∙ z))
      ∙ ap (λ (t : Tag). Ok (Met t)) (tag ∙ ap (moved o) (sym is))

  pub run-walked :
      well_formed (length s) 0 (tags_of s) ≡ true → walk i 256 o ≡ prefixed (map (moved o) (tags_of s)) (walk i 256 (o + length s))
  unfolding well_formed
  run-walked w =
      rw add-zero at
      (walk_ind s (length s)
      (λ (p : ℕ) (v : Walk). well_formed (length s) p v.tags ≡ true → walk i 256 (o + p) ≡ prefixed (map (moved o) v.tags) (walk i 256 (o + length s)))
      at_stop at_padding at_tag 0 w)
    where
      at_stop : (p n : ℕ) → (n ≡ 13) ⊎ (n ≡ 25) → well_formed (length s) p [] ≡ true → walk i 256 (o + p) ≡ walk i 256 (o + length s)
      at_stop p n d b = ap (λ (q : ℕ). walk i 256 (o + q)) (eqb-true p (length s) b)

      at_padding :
          (p q : ℕ) → p < q → q ≤ length s →
          (well_formed (length s) q (walk s (length s) q).tags ≡ true →
          walk i 256 (o + q) ≡ prefixed (map (moved o) (walk s (length s) q).tags) (walk i 256 (o + length s))) →
          well_formed (length s) p (walk s (length s) q).tags ≡ true →
          walk i 256 (o + p) ≡ prefixed (map (moved o) (walk s (length s) q).tags) (walk i 256 (o + length s))
      at_padding p q l m ih b = never (sym b ∙ gap s (length s) p q (omega arith) l)

      at_tag :
          (p : ℕ) (t : Tag) → Good s (length s) p t →
          (well_formed (length s) t.next (walk s (length s) t.next).tags ≡ true →
          walk i 256 (o + t.next) ≡
          prefixed (map (moved o) (walk s (length s) t.next).tags) (walk i 256 (o + length s))) →
          well_formed (length s) p (t ∷ (walk s (length s) t.next).tags) ≡ true →
          walk i 256 (o + p) ≡
          prefixed (moved o t ∷ map (moved o) (walk s (length s) t.next).tags) (walk i 256 (o + length s))
      at_tag p t g ih b =
          let r : List Tag = (walk s (length s) t.next).tags in
          let a : eqb t.at (p + 4) ≡ true = and_left _ (not (named t.kind) && well_formed (length s) t.next r) b in
          let c : well_formed (length s) t.next r ≡ true =
          and_right (not (named t.kind)) _ (and_right (eqb t.at (p + 4)) _ b) in
          walk_step i 256 (o + p) ∙ ap (on_step (walk i 256)) (step_in p t g (eqb-true _ _ a)) ∙ ap (meets (moved o t)) (ih c)

  -- the content of a tag of the run
  pub content_in : (t : Tag) → t.at + t.len ≤ length s → content_at i (moved o t) ≡ content_at s t
  content_in t l =
      rw (rest_at i o t.at _ stands, drop-append-le t.at s rest (omega arith))
      (take-append-le t.len (drop t.at s) rest (rw length-drop (omega arith)))
