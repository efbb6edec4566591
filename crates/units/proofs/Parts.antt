-- A unit of a plan file read from its own bytes alone, and the same unit read where it stands in a file. `Part` relates the two readings, and each reader
-- of rules/specs/PlanFile.antt keeps it: sizes (`sizes-part`), a sharding (`sharding-part`), a step (`step_part`), the head of a repeat (`head-part`),
-- a number (`number-part`). Assumes nothing.
use Prim.Native.Nat.{ℕ, zero, suc, ◌+◌, ◌*◌, ◌≤◌, ◌<◌}
use mathlib.Core.Bool.{Bool, true, false}
use mathlib.Core.Path.{◌≡◌, refl, sym, ap, ap₂, ◌∙◌, subst}
use mathlib.Core.Logic.{◌≢◌}
use mathlib.Core.List.{List, [], ◌∷◌, ◌++◌}
use native.Mathlib.Omega.{arith}
use native.Mathlib.Decide.{dec_lt, ℕ_discrete}
use borrow.Author.Tests.{lt-ltb, le-leb, lt-leb, eq-eqb}
use lib.ListN.{length, get_or, take, drop, length-append, length-drop, get_or-append}
use lib.Seq.{take-append-le, drop-append-le, drop-append-add, get_or-append-add}
use lib.Dec.{ltb, leb, eqb, leb→le}
use Rattle.rules.specs.Lists.{tab}
use Rattle.rules.specs.Sharding.{Sharding}
use Rattle.rules.specs.Collectives.{Step, all_to_all}
use Rattle.rules.specs.Refusals.{Judged, accept, refuse, ◌>>=◌, ◌>>◌, need}
use Rattle.rules.specs.PlanFile.{
  Read,
  u16_at,
  judge_sizes,
  sizes_at,
  list_read_at,
  lists_at,
  replicated_at,
  sharding_at,
  Kind,
  AllSlice,
  AllGather,
  AllReduce,
  AllToAll,
  ReduceScatter,
  Unknown,
  kind_of,
  lists_of,
  step_at,
  positive_at,
  is_repeat,
}
use Rattle.laws.proofs.Judging.{never, accept-inj, need-inv, then-inv, bind_inv}
use Rattle.laws.proofs.Lists.{tab-cong}
use Rattle.laws.proofs.Bytes.{step-bytes}
use Rattle.laws.proofs.Repeats.{positive-inv}
use Rattle.reader.proofs.Listing.{ByteIs, no-count, count-above, axes-missing}
use Rattle.reader.proofs.Stepping.{dims-missing, no_kind}
use Rattle.blocks.specs.Blocks.{Head, not_too_deep}
use Rattle.blocks.proofs.Heads.{repeat_past, positive-past, positive-zero, positive-is}

-- ---- the relation

-- x is the reading of a part of e bytes, y that of the same unit in a file of w bytes in which the part stands from p on: both are read, or both refused
-- for the same reason other than 7; or the part ends too early, and then a reading of the file goes past it, and there is none if the file ends with it.
pub data Part {A : Type 0} (p e w : ℕ) : Judged (Read A) → Judged (Read A) → Type 0 where
  got : {v : A} {k : ℕ} → k ≤ e → Part p e w (accept (record { value = v; next = k })) (accept (record { value = v; next = p + k }))
  bad : {a b : ℕ} → a ≢ 7 → Part p e w (refuse a b) (refuse a b)
  cut : {y : Judged (Read A)} → ((r : Read A) → y ≡ accept r → p + e < r.next) → (w ≡ p + e → y ≡ refuse 7 0) → Part p e w (refuse 7 0) y

-- a reading from r on goes on
abbrev Onward : {A B : Type 0} → (Read A → Judged (Read B)) → Type 0
Onward {A} {B} g = (r : Read A) (s : Read B) → g r ≡ accept s → r.next ≤ s.next

part-bind : {A B : Type 0} {p e w : ℕ} {x y : Judged (Read A)} (f g : Read A → Judged (Read B)) → Part p e w x y
    → ((v : A) (k : ℕ) → k ≤ e → Part p e w (f (record { value = v; next = k })) (g (record { value = v; next = p + k })))
    → Onward g → Part p e w (◌>>=◌ x f) (◌>>=◌ y g)
part-bind f g (got {v} {k} h) next on = next v k h
part-bind f g (bad h) next on = bad h
part-bind f g (cut {y} far whole) next on =
    cut (λ s q. let z = bind_inv y g s q in let a = far z.0 z.1 in let b = on z.0 s z.2 in omega arith)
    (λ l. ap (λ j. ◌>>=◌ j g) (whole l))

-- the last bind of a reading, which makes a value of another
next-same : {A B : Type 0} (f : A → B) → Onward (λ (r : Read A). accept (record { value = f r.value; next = r.next }))
next-same {B = B} f r s q = omega (arith, ap (λ (x : Read B). x.next) (accept-inj q))

pub number_of : {A : Type 0} {a b c d : ℕ} → ◌≡◌ {A = Judged A} (refuse a b) (refuse c d) → a ≡ c
number_of e = cc

-- ---- where a list ends

list-next : (n : ℕ) (f : List ℕ) (at : ℕ) (r : Read (List ℕ)) → list_read_at n f at ≡ accept r → (r.next ≡ at + 1 + get_or f at 0) × (r.next ≤ length f)
unfolding list_read_at
list-next n f at r e =
    let a = need-inv 0 (ltb at (length f)) 7 _ r e in
    let b = need-inv 0 (leb (get_or f at 0) n) 8 _ r a.1 in
    let c = need-inv 0 (leb (at + 1 + get_or f at 0) (length f)) 7 _ r b.1 in
    let q = ap (λ (x : Read (List ℕ)). x.next) (accept-inj c.1) in
    (sym q, omega (arith, q, leb→le (at + 1 + get_or f at 0) (length f) c.0))

lists-next : (n rank : ℕ) (f : List ℕ) (at : ℕ) (r : Read (List (List ℕ))) → lists_at n rank f at ≡ accept r → at ≤ r.next
unfolding lists_at
lists-next n zero f at r e = omega (arith, ap (λ (x : Read (List (List ℕ))). x.next) (accept-inj e))
lists-next n (suc rank) f at r e =
    let a = bind_inv (list_read_at n f at) _ r e in
    let b = bind_inv (lists_at n rank f a.0.next) _ r a.2 in
    omega (
      arith,
      (list-next n f at a.0 a.1).0,
      lists-next n rank f a.0.next b.0 b.1,
      ap (λ (x : Read (List (List ℕ))). x.next) (accept-inj b.2),
    )

replicated-next : (carried : Bool) (n : ℕ) (f : List ℕ) (at : ℕ) (r : Read (List ℕ)) → replicated_at carried n f at ≡ accept r → at ≤ r.next
unfolding replicated_at
replicated-next true n f at r e = omega (arith, (list-next n f at r e).0)
replicated-next false n f at r e = omega (arith, ap (λ (x : Read (List ℕ)). x.next) (accept-inj e))

pub list-is : (n : ℕ) (f : List ℕ) (at : ℕ) {c : ℕ} → ByteIs f at c → c ≤ n → at + 1 + c ≤ length f
    → list_read_at n f at ≡ accept (record { value = take c (drop (at + 1) f); next = at + 1 + c })
unfolding list_read_at
list-is n f at {c} h low room = simp (h.is, lt-ltb at (length f) h.inside, le-leb c n low, le-leb (at + 1 + c) (length f) room)

-- ---- sizes and numbers

pub sizes-not-seven : (most z o running : ℕ) (sizes : List ℕ) {a b : ℕ} → z ≢ 7 → o ≢ 7 → judge_sizes most z o running sizes ≡ refuse a b → a ≢ 7
unfolding judge_sizes
sizes-not-seven most z o running [] hz ho e = absurd (never (sym e))
sizes-not-seven most z o running (n ∷ sizes) {a} {b} hz ho e = go (ltb 0 n) (leb (running * n) most) (λ f. sizes-not-seven most z o (running * n) sizes hz ho f) e
  where
    go : (p q : Bool) → (judge_sizes most z o (running * n) sizes ≡ refuse a b → a ≢ 7) → ◌>>◌ (need p z) (◌>>◌ (need q o) (judge_sizes most z o (running * n) sizes)) ≡ refuse a b → a ≢ 7
    go false q on e = λ s. hz (number_of e ∙ s)
    go true false on e = λ s. ho (number_of e ∙ s)
    go true true on e = on e

-- a number of two bytes
abbrev pub number_at : List ℕ → ℕ → Judged (Read ℕ)
number_at f at = do
  need (leb (at + 2) (length f)) 7
  accept (record { value = u16_at f at; next = at + 2 })

-- ---- the head of a repeat, and an item

abbrev read_on : ℕ → Judged ℕ → Judged (Read ℕ)
read_on at j = ◌>>=◌ j (λ c. accept (record { value = c; next = at + 1 }))

abbrev positive_read : (k : ℕ) → List ℕ → ℕ → Judged (Read ℕ)
positive_read k f at = read_on at (positive_at k f at)

-- `head_at`, and where the next byte is
abbrev pub read_head : (depth k : ℕ) → List ℕ → ℕ → Judged (Read Head)
read_head depth k f at = do
  c ← positive_read k f at
  n ← positive_read k f c.next
  not_too_deep depth k
  accept (record { value = record { count = c.value; number = n.value }; next = n.next })

positive-next : (k : ℕ) (f : List ℕ) (at : ℕ) (r : Read ℕ) → positive_read k f at ≡ accept r → (r.next ≡ at + 1) × (at < length f)
positive-next k f at r e =
    let a = bind_inv (positive_at k f at) _ r e in
    (sym (ap (λ (x : Read ℕ). x.next) (accept-inj a.2)), (positive-inv [] [] f k at a.0 a.1).0)

deep-next : (depth k : ℕ) (r s : Read Head) → ◌>>◌ (not_too_deep depth k) (accept r) ≡ accept s → r.next ≡ s.next
deep-next zero k r s e = absurd (never e)
deep-next (suc depth) k r s e = ap (λ (x : Read Head). x.next) (accept-inj e)

-- what stands at a kind byte: a repeat opens, or a step is taken
pub data Item : Type 0 where
  opens : Head → Item
  takes : Step → Item

abbrev pub item_of : (depth n rank k : ℕ) → (repeated : Bool) → List ℕ → ℕ → Judged (Read Item)
item_of depth n rank k true f at = ◌>>=◌ (read_head depth k f (at + 1)) (λ h. accept (record { value = opens h.value; next = h.next }))
item_of depth n rank k false f at = ◌>>=◌ (step_at n rank k f at) (λ t. accept (record { value = takes t.value; next = t.next }))

abbrev pub item_read : (depth n rank k : ℕ) → List ℕ → ℕ → Judged (Read Item)
item_read depth n rank k f at = item_of depth n rank k (is_repeat f at) f at

item-next : (depth n rank k : ℕ) (f : List ℕ) (at : ℕ) (b : Bool) (r : Read Item) → item_of depth n rank k b f at ≡ accept r → at < r.next
item-next depth n rank k f at true r e =
    let h = bind_inv (read_head depth k f (at + 1)) _ r e in
    let c = bind_inv (positive_read k f (at + 1)) _ h.0 h.1 in
    let d = bind_inv (positive_read k f c.0.next) _ h.0 c.2 in
    omega (
      arith,
      (positive-next k f (at + 1) c.0 c.1).0,
      (positive-next k f c.0.next d.0 d.1).0,
      deep-next depth k (record { value = record { count = c.0.value; number = d.0.value }; next = d.0.next }) h.0 d.2,
      ap (λ (x : Read Item). x.next) (accept-inj h.2),
    )
item-next depth n rank k f at false r e =
    let t = bind_inv (step_at n rank k f at) _ r e in
    omega (arith, (step-bytes f n rank k at t.0 t.1).0, ap (λ (x : Read Item). x.next) (accept-inj t.2))

-- no byte is left
pub item-none : (depth n rank k : ℕ) (f : List ℕ) (at : ℕ) → length f ≤ at → item_read depth n rank k f at ≡ refuse 7 0
item-none depth n rank k f at h =
    ap (λ (b : Bool). item_of depth n rank k b f at) (repeat_past f at h) ∙ ap (λ (j : Judged (Read Step)). ◌>>=◌ j (λ t. accept (record { value = takes t.value; next = t.next }))) (no_kind n rank k f at h)

-- ---- a part and the file around it

module _ (pre part rest : List ℕ) where
  abbrev pub whole : List ℕ
  whole = pre ++ (part ++ rest)

  pub whole_long : length whole ≡ length pre + length part + length rest
  whole_long = length-append pre (part ++ rest) ∙ omega (arith, length-append part rest)

  byte-same : (i : ℕ) → i < length part → get_or whole (length pre + i) 0 ≡ get_or part i 0
  byte-same i h = get_or-append-add pre (part ++ rest) i 0 ∙ get_or-append part rest 0 i h

  bytes_same : (at c : ℕ) → at + c ≤ length part → take c (drop (length pre + at) whole) ≡ take c (drop at part)
  bytes_same at c h =
      ap (take c) (drop-append-add pre (part ++ rest) at ∙ drop-append-le at part rest (omega arith))
      ∙ take-append-le c (drop at part) rest (simp length-drop (omega arith))

  abbrev pub InPart : {A : Type 0} → Judged (Read A) → Judged (Read A) → Type 0
  InPart x y = Part (length pre) (length part) (length whole) x y

  -- the readings by what they are equal to
  both-are : {A : Type 0} {x x' y y' : Judged (Read A)} → x ≡ x' → y ≡ y' → InPart x' y' → InPart x y
  both-are {x'} {y} p q t = subst (λ j. InPart j y) (sym p) (subst (InPart x') (sym q) t)

  list-part : (n at : ℕ) → InPart (list_read_at n part at) (list_read_at n whole (length pre + at))
  list-part n at = go (dec_lt at (length part)) (dec_lt n (get_or part at 0)) (dec_lt (length part) (at + 1 + get_or part at 0))
    where
      go : Dec (at < length part) → Dec (n < get_or part at 0) → Dec (length part < at + 1 + get_or part at 0)
          → InPart (list_read_at n part at) (list_read_at n whole (length pre + at))
      go (no d) b c =
          both-are (no-count n part at (omega (arith, d))) refl
          (cut (λ r q. omega (arith, d, (list-next n whole (length pre + at) r q).0)) (λ l. no-count n whole (length pre + at) (omega (arith, d))))
      go (yes l) (yes m) c =
          let here : ByteIs part at (get_or part at 0) = record { inside = l; is = refl } in
          let there : ByteIs whole (length pre + at) (get_or part at 0) = record { inside = omega (arith, whole_long); is = byte-same at l } in
          both-are (count-above n part at here m) (count-above n whole (length pre + at) there m) (bad (λ e. omega (arith, e)))
      go (yes l) (no m) (yes s) =
          let here : ByteIs part at (get_or part at 0) = record { inside = l; is = refl } in
          let there : ByteIs whole (length pre + at) (get_or part at 0) = record { inside = omega (arith, whole_long); is = byte-same at l } in
          both-are (axes-missing n part at here (omega (arith, m)) s) refl
          (cut (λ r q. omega (arith, (list-next n whole (length pre + at) r q).0, byte-same at l))
          (λ e. axes-missing n whole (length pre + at) there (omega (arith, m)) (omega arith)))
      go (yes l) (no m) (no s) =
          let here : ByteIs part at (get_or part at 0) = record { inside = l; is = refl } in
          let there : ByteIs whole (length pre + at) (get_or part at 0) = record { inside = omega (arith, whole_long); is = byte-same at l } in
          let j : length pre + at + 1 ≡ length pre + (at + 1) = omega arith in
          let v : take (get_or part at 0) (drop (length pre + at + 1) whole) ≡ take (get_or part at 0) (drop (at + 1) part) =
          ap (λ (k : ℕ). take (get_or part at 0) (drop k whole)) j ∙ bytes_same (at + 1) (get_or part at 0) (omega (arith, s)) in
          let k : length pre + at + 1 + get_or part at 0 ≡ length pre + (at + 1 + get_or part at 0) = omega arith in
          both-are (list-is n part at here (omega (arith, m)) (omega (arith, s)))
          (list-is n whole (length pre + at) there (omega (arith, m)) (omega (arith, s, whole_long)) ∙ (λ i. accept (record { value = v i; next = k i })))
          (got (omega (arith, s)))

  lists-part : (n rank at : ℕ) → at ≤ length part → InPart (lists_at n rank part at) (lists_at n rank whole (length pre + at))
  unfolding lists_at
  lists-part n zero at h = got h
  lists-part n (suc rank) at h =
      part-bind _ _ (list-part n at)
      (λ v k l. part-bind _ _ (lists-part n rank k l) (λ ls e m. got m) (next-same (λ (ls : List (List ℕ)). v ∷ ls)))
      (λ r s q. let z = bind_inv (lists_at n rank whole r.next) _ s q in
      omega (arith, lists-next n rank whole r.next z.0 z.1, ap (λ (x : Read (List (List ℕ))). x.next) (accept-inj z.2)))

  replicated-part : (carried : Bool) (n at : ℕ) → at ≤ length part → InPart (replicated_at carried n part at) (replicated_at carried n whole (length pre + at))
  unfolding replicated_at
  replicated-part true n at h = list-part n at
  replicated-part false n at h = got h

  -- A STARTING SHARDING
  pub sharding-part : (carried : Bool) (n rank : ℕ)
      → InPart (sharding_at carried n rank 0 part 0) (sharding_at carried n rank (length pre) whole (length pre))
  unfolding sharding_at
  sharding-part carried n rank =
      let z : length pre + 0 ≡ length pre = omega arith in
      simp (eq-eqb (length pre) (length pre) refl)
      (part-bind {A = List (List ℕ)} {B = Sharding} _ _
      (subst (λ (k : ℕ). InPart (lists_at n rank part 0) (lists_at n rank whole k)) z (lists-part n rank 0 (omega arith)))
      (λ ds k l. part-bind {A = List ℕ} {B = Sharding} _ _ (list-part n k)
      (λ u e m. part-bind {A = List ℕ} {B = Sharding} _ _ (replicated-part carried n e m) (λ v i o. got o)
      (next-same (λ (v : List ℕ). record { dims = ds; unreduced = u; replicated = v })))
      (λ r s q. let v = bind_inv (replicated_at carried n whole r.next) _ s q in
      omega (arith, replicated-next carried n whole r.next v.0 v.1, ap (λ (x : Read Sharding). x.next) (accept-inj v.2))))
      (λ r s q. let u = bind_inv (list_read_at n whole r.next) _ s q in let v = bind_inv (replicated_at carried n whole u.0.next) _ s u.2 in
      omega (arith, (list-next n whole r.next u.0 u.1).0, replicated-next carried n whole u.0.next v.0 v.1, ap (λ (x : Read Sharding). x.next) (accept-inj v.2))))

  -- an all-to-all after its two dimensions
  abbrev read_to_all : (n : ℕ) → List ℕ → (source target at : ℕ) → Judged (Read Step)
  read_to_all n f source target at = ◌>>=◌ (list_read_at n f at) (λ l. accept (record { value = all_to_all source target l.value; next = l.next }))

  -- what follows the kind byte of a step
  lists-of-part : (n rank k at : ℕ) (kind : Kind) → at ≤ length part → InPart (lists_of n rank k part at kind) (lists_of n rank k whole (length pre + at) kind)
  unfolding lists_of
  lists-of-part n rank k at AllSlice h = part-bind _ _ (lists-part n rank at h) (λ ls e m. got m) (next-same _)
  lists-of-part n rank k at AllGather h = part-bind _ _ (lists-part n rank at h) (λ ls e m. got m) (next-same _)
  lists-of-part n rank k at AllReduce h = part-bind _ _ (list-part n at) (λ ls e m. got m) (next-same _)
  lists-of-part n rank k at AllToAll h = go (dec_lt (length part) (at + 2))
    where
      next_of : (at : ℕ) (s t : ℕ) (r : Read Step) → read_to_all n whole s t at ≡ accept r → at < r.next
      next_of at s t r e =
          let z = bind_inv (list_read_at n whole at) _ r e in
          omega (arith, (list-next n whole at z.0 z.1).0, ap (λ (x : Read Step). x.next) (accept-inj z.2))

      go : Dec (length part < at + 2) → InPart (lists_of n rank k part at AllToAll) (lists_of n rank k whole (length pre + at) AllToAll)
      go (yes s) =
          both-are (dims-missing n rank k part at s) refl
          (cut (λ r q. let z = need-inv 0 (leb (length pre + at + 2) (length whole)) 7 _ r q in omega (arith, next_of _ _ _ r z.1))
          (λ e. dims-missing n rank k whole (length pre + at) (omega arith)))
      go (no s) =
          let j : length pre + at + 1 ≡ length pre + (at + 1) = omega arith in
          let i : length pre + at + 2 ≡ length pre + (at + 2) = omega arith in
          let a : get_or whole (length pre + at) 0 ≡ get_or part at 0 = byte-same at (omega (arith, s)) in
          let b : get_or whole (length pre + at + 1) 0 ≡ get_or part (at + 1) 0 = ap (λ (k : ℕ). get_or whole k 0) j ∙ byte-same (at + 1) (omega (arith, s)) in
          let y : lists_of n rank k whole (length pre + at) AllToAll ≡ read_to_all n whole (get_or part at 0) (get_or part (at + 1) 0) (length pre + (at + 2)) =
          simp (a, b, i, le-leb (length pre + (at + 2)) (length whole) (omega (arith, s, whole_long))) in
          let x : lists_of n rank k part at AllToAll ≡ read_to_all n part (get_or part at 0) (get_or part (at + 1) 0) (at + 2) =
          simp (le-leb (at + 2) (length part) (omega (arith, s))) in
          both-are x y (part-bind _ _ (list-part n (at + 2)) (λ ls e m. got m) (next-same (all_to_all (get_or part at 0) (get_or part (at + 1) 0))))
  lists-of-part n rank k at ReduceScatter h = part-bind _ _ (lists-part n rank at h) (λ ls e m. got m) (next-same _)
  lists-of-part n rank k at Unknown h = bad {a = 20} (λ e. omega (arith, e))

  by_kind : (n rank k : ℕ) (f : List ℕ) (at : ℕ) {b : ℕ} → ByteIs f at b → step_at n rank k f at ≡ lists_of n rank k f (at + 1) (kind_of b)
  unfolding step_at
  by_kind n rank k f at h = simp (h.is, lt-ltb at (length f) h.inside)

  -- A STEP
  pub step_part : (n rank k : ℕ) → InPart (step_at n rank k part 0) (step_at n rank k whole (length pre))
  step_part n rank k = go (dec_lt 0 (length part))
    where
      go : Dec (0 < length part) → InPart (step_at n rank k part 0) (step_at n rank k whole (length pre))
      go (yes l) =
          let z : length pre + 0 ≡ length pre = omega arith in
          let b : get_or whole (length pre) 0 ≡ get_or part 0 0 = ap (λ (k : ℕ). get_or whole k 0) (sym z) ∙ byte-same 0 l in
          both-are (by_kind n rank k part 0 (record { inside = l; is = refl }))
          (by_kind n rank k whole (length pre) (record { inside = omega (arith, whole_long); is = b }))
          (lists-of-part n rank k 1 (kind_of (get_or part 0 0)) (omega arith))
      go (no d) =
          both-are (no_kind n rank k part 0 (omega (arith, d))) refl
          (cut (λ r q. omega (arith, d, (step-bytes whole n rank k (length pre) r q).0)) (λ e. no_kind n rank k whole (length pre) (omega (arith, d))))

  -- ---- sizes and numbers

  size_same : (i : ℕ) → i + 1 < length part → u16_at whole (length pre + i) ≡ u16_at part i
  unfolding u16_at
  size_same i h =
      let j : length pre + i + 1 ≡ length pre + (i + 1) = omega arith in
      ap₂ (λ (a b : ℕ). a + b * 256) (byte-same i (omega arith)) (ap (λ (k : ℕ). get_or whole k 0) j ∙ byte-same (i + 1) h)

  -- A SECTION OF SIZES
  pub sizes-part : (most z o count : ℕ) → z ≢ 7 → o ≢ 7
      → InPart (sizes_at most z o count 0 part 0) (sizes_at most z o count (length pre) whole (length pre))
  unfolding sizes_at
  sizes-part most z o count hz ho = go (dec_lt (length part) (2 * count))
    where
      sizes : List ℕ
      sizes = tab count (λ i. u16_at part (0 + 2 * i))

      sizes-same : 2 * count ≤ length part → tab count (λ i. u16_at whole (length pre + 2 * i)) ≡ sizes
      sizes-same h = tab-cong count _ _ (λ i l. let z : 0 + 2 * i ≡ 2 * i = omega arith in size_same (2 * i) (omega arith) ∙ ap (u16_at part) (sym z))

      judged : (j : Judged (Unit {0})) → judge_sizes most z o 1 sizes ≡ j → 2 * count ≤ length part
          → InPart (◌>>◌ j (accept (record { value = sizes; next = 0 + 2 * count }))) (◌>>◌ j (accept (record { value = sizes; next = length pre + 2 * count })))
      judged (accept t) e h =
          let q : length pre + (0 + 2 * count) ≡ length pre + 2 * count = omega arith in
          subst (λ (k : ℕ). InPart (accept (record { value = sizes; next = 0 + 2 * count })) (accept (record { value = sizes; next = k }))) q (got (omega arith))
      judged (refuse a b) e h = bad (sizes-not-seven most z o 1 sizes hz ho e)

      go : Dec (length part < 2 * count) → InPart (sizes_at most z o count 0 part 0) (sizes_at most z o count (length pre) whole (length pre))
      go (yes s) =
          both-are (simp (lt-leb (0 + 2 * count) (length part) (omega arith))) refl
          (cut (λ r q. let a = need-inv 0 (eqb (length pre) (length pre)) 6 _ r q in let b = need-inv 0 (leb (length pre + 2 * count) (length whole)) 7 _ r a.1 in
          let c = then-inv (judge_sizes most z o 1 (tab count (λ i. u16_at whole (length pre + 2 * i)))) _ r b.1 in
          omega (arith, ap (λ (x : Read (List ℕ)). x.next) (accept-inj c.1)))
          (λ e. simp (eq-eqb (length pre) (length pre) refl, lt-leb (length pre + 2 * count) (length whole) (omega arith))))
      go (no d) =
          let h : 2 * count ≤ length part = omega (arith, d) in
          both-are (simp (le-leb (0 + 2 * count) (length part) (omega arith)))
          (simp (eq-eqb (length pre) (length pre) refl, le-leb (length pre + 2 * count) (length whole) (omega (arith, whole_long)), sizes-same h))
          (judged (judge_sizes most z o 1 sizes) refl h)

  -- A NUMBER OF AN ORDER
  pub number-part : InPart (number_at part 0) (number_at whole (length pre))
  number-part = go (dec_lt (length part) 2)
    where
      go : Dec (length part < 2) → InPart (number_at part 0) (number_at whole (length pre))
      go (yes s) =
          both-are (simp (lt-leb (0 + 2) (length part) s)) refl
          (cut (λ r q. let a = need-inv 0 (leb (length pre + 2) (length whole)) 7 _ r q in omega (arith, ap (λ (x : Read ℕ). x.next) (accept-inj a.1)))
          (λ e. simp (lt-leb (length pre + 2) (length whole) (omega arith))))
      go (no d) =
          let z : length pre + 0 ≡ length pre = omega arith in
          let v : u16_at whole (length pre) ≡ u16_at part 0 = ap (u16_at whole) (sym z) ∙ size_same 0 (omega (arith, d)) in
          let x : number_at part 0 ≡ accept (record { value = u16_at part 0; next = 2 }) = simp (le-leb (0 + 2) (length part) (omega (arith, d))) in
          let y : number_at whole (length pre) ≡ accept (record { value = u16_at part 0; next = length pre + 2 }) =
          simp (le-leb (length pre + 2) (length whole) (omega (arith, d, whole_long)), v) in
          both-are x y (got (omega (arith, d)))

  -- ---- the head of a repeat

  positive-part : (k at : ℕ) → InPart (positive_read k part at) (positive_read k whole (length pre + at))
  positive-part k at = go (dec_lt at (length part)) (ℕ_discrete (get_or part at 0) 0)
    where
      go : Dec (at < length part) → Dec (get_or part at 0 ≡ 0) → InPart (positive_read k part at) (positive_read k whole (length pre + at))
      go (no d) c =
          both-are (ap (read_on at) (positive-past k part at (omega (arith, d)))) refl
          (cut (λ r q. omega (arith, d, (positive-next k whole (length pre + at) r q).0)) (λ e. ap (read_on (length pre + at)) (positive-past k whole (length pre + at) (omega (arith, d)))))
      go (yes l) (yes z) =
          both-are (ap (read_on at) (positive-zero k part at l z))
          (ap (read_on (length pre + at)) (positive-zero k whole (length pre + at) (omega (arith, whole_long)) (byte-same at l ∙ z)))
          (bad (λ e. omega (arith, e)))
      go (yes l) (no z) =
          let j : length pre + at + 1 ≡ length pre + (at + 1) = omega arith in
          both-are (ap (read_on at) (positive-is k part at l z))
          (ap (read_on (length pre + at)) (positive-is k whole (length pre + at) (omega (arith, whole_long)) (λ e. z (sym (byte-same at l) ∙ e)))
          ∙ (λ i. accept (record { value = byte-same at l i; next = j i })))
          (got (omega arith))

  depth-part : (depth k at : ℕ) (h : Head) → at ≤ length part
      → InPart (◌>>◌ (not_too_deep depth k) (accept (record { value = h; next = at }))) (◌>>◌ (not_too_deep depth k) (accept (record { value = h; next = length pre + at })))
  depth-part zero k at h l = bad {a = 42} (λ e. omega (arith, e))
  depth-part (suc depth) k at h l = got l

  -- THE HEAD OF A REPEAT, behind its kind byte
  head-part : (depth k at : ℕ) → InPart (read_head depth k part at) (read_head depth k whole (length pre + at))
  head-part depth k at =
      part-bind {A = ℕ} {B = Head} _ _ (positive-part k at)
      (λ c i l. part-bind {A = ℕ} {B = Head} _ _ (positive-part k i) (λ n j m. depth-part depth k j (record { count = c; number = n }) m)
      (λ r s q. omega (arith, deep-next depth k (record { value = record { count = c; number = r.value }; next = r.next }) s q)))
      (λ r s q. let z = bind_inv (positive_read k whole r.next) _ s q in
      omega (arith, (positive-next k whole r.next z.0 z.1).0, deep-next depth k (record { value = record { count = r.value; number = z.0.value }; next = z.0.next }) s z.2))

  -- A STEP OR THE HEAD OF A REPEAT
  module _ (depth n rank k : ℕ) where
    item_by : (b : Bool) → 0 < length part → InPart (item_of depth n rank k b part 0) (item_of depth n rank k b whole (length pre))
    item_by true h = part-bind {A = Head} {B = Item} _ _ (head-part depth k 1) (λ v i l. got l) (next-same opens)
    item_by false h = part-bind {A = Step} {B = Item} _ _ (step_part n rank k) (λ v i l. got l) (next-same takes)

    pub item-part : InPart (item_read depth n rank k part 0) (item_read depth n rank k whole (length pre))
    item-part = go (dec_lt 0 (length part))
      where
        go : Dec (0 < length part) → InPart (item_read depth n rank k part 0) (item_read depth n rank k whole (length pre))
        go (yes l) =
            let z : length pre + 0 ≡ length pre = omega arith in
            let e : is_repeat whole (length pre) ≡ is_repeat part 0 = ap (λ (b : ℕ). eqb b 9) (ap (λ (i : ℕ). get_or whole i 0) (sym z) ∙ byte-same 0 l) in
            subst (λ (b : Bool). InPart (item_read depth n rank k part 0) (item_of depth n rank k b whole (length pre))) (sym e) (item_by (is_repeat part 0) l)
        go (no d) =
            both-are (item-none depth n rank k part 0 (omega (arith, d))) refl
            (cut (λ r q. omega (arith, d, item-next depth n rank k whole (length pre) (is_repeat whole (length pre)) r q)) (λ e. item-none depth n rank k whole (length pre) (omega (arith, d))))
