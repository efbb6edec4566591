-- What each reader accepts stands in the file as the writer writes it, byte for byte (`Spells`). Assumes nothing.
use Prim.Native.Nat.{ℕ, zero, suc, ◌+◌, ◌*◌, ◌/◌, ◌%◌, ◌≤◌, ◌<◌}
use mathlib.Core.Path.{◌≡◌, refl, sym, ap, ap₂, ◌∙◌, subst}
use mathlib.Core.Logic.{◌⊎◌, inl, inr, ⊎_elim}
use mathlib.Core.Bool.{Bool, true, false, not}
use mathlib.Core.List.{List, [], ◌∷◌, ◌++◌, map, append_assoc, append-nil}
use native.Mathlib.Omega.{arith}
use native.Mathlib.Numerals.{add-one}
use lib.ListN.{length, get_or, take, drop, length-append, length-drop, take-append-drop}
use lib.Seq.{drop-cons, drop-drop, length-take-le}
use lib.Arith.{digits_div, digits_mod}
use lib.Dec.{T, ltb, leb, eqb, ltb→lt, leb→le, eqb→eq}
use Rattle.rules.specs.Lists.{tab, pick}
use Rattle.rules.specs.Sharding.{Sharding}
use Rattle.rules.specs.Collectives.{Step}
use Rattle.rules.specs.Refusals.{accept}
use Rattle.rules.specs.PlanFile.{Read, u16_at, list_read_at, lists_at, replicated_at, carries_replicated, sharding_at, kind_of, lists_of, step_at, judge_step, Record, StepsRead, JudgesStep, JudgesSteps, steps_at, plain_at, repeat_at, is_repeat, item_with, too_deep, item_at, Kind, AllSlice, AllGather, AllReduce, AllToAll, ReduceScatter, Unknown}
use Rattle.laws.proofs.Lists.{T?}
use Rattle.laws.proofs.Judging.{never, accept-inj, need-inv, bind_inv}
use Rattle.laws.proofs.Repeats.{IsRepeat, repeat-inv, positive-inv}
use Rattle.records.specs.Records.{known, u16_bytes, u16s_bytes, list_bytes, lists_bytes, replicated_bytes, sharding_bytes, step_bytes, given_bytes, steps_bytes}
use Rattle.records.specs.RoundTrip.{Bytes}

-- the bytes stand in the file from `at` up to `next`
pub record Spells (file : List ℕ) (at next : ℕ) (bytes : List ℕ) : Type 0 where
  pub is : drop at file ≡ bytes ++ drop next file
  pub ends : next ≡ at + length bytes
  pub inside : next ≤ length file

module _ (file : List ℕ) where
  pub nothing : (at : ℕ) → at ≤ length file → Spells file at at []
  nothing at h = record { is = refl; ends = omega arith; inside = h }

  pub join : (at next last : ℕ) (x y : List ℕ) → Spells file at next x → Spells file next last y → Spells file at last (x ++ y)
  join at next last x y f g = record {
    is = f.is ∙ ap (λ (l : List ℕ). x ++ l) g.is ∙ sym (append_assoc x y (drop last file));
    ends = omega (arith, f.ends, g.ends, length-append x y);
    inside = g.inside;
  }

  byte : (at : ℕ) → at < length file → Spells file at (at + 1) (get_or file at 0 ∷ [])
  byte at h = record { is = drop-cons file at 0 h ∙ ap (λ (k : ℕ). get_or file at 0 ∷ drop k file) (sym (add-one at)); ends = refl; inside = omega arith }

  part : (at n : ℕ) → at + n ≤ length file → Spells file at (at + n) (take n (drop at file))
  part at n h = record {
    is = sym (take-append-drop n (drop at file)) ∙ ap (λ (l : List ℕ). take n (drop at file) ++ l) (drop-drop n at file);
    ends = omega (arith, length-take-le n (drop at file) (omega (arith, length-drop at file)));
    inside = h;
  }

  list-spells : (n at : ℕ) (r : Read (List ℕ)) → list_read_at n file at ≡ accept r → Spells file at r.next (list_bytes r.value)
  unfolding list_read_at
  list-spells n at r e =
      let a = need-inv 0 (ltb at (length file)) 7 _ r e in
      let b = need-inv 0 (leb (get_or file at 0) n) 8 _ r a.1 in
      let c = need-inv 0 (leb (at + 1 + get_or file at 0) (length file)) 7 _ r b.1 in
      let k : ℕ = get_or file at 0 in
      let l : at + 1 + k ≤ length file = leb→le (at + 1 + k) (length file) c.0 in
      let v : List ℕ = take k (drop (at + 1) file) in
      let m : length v ≡ k = length-take-le k (drop (at + 1) file) (omega (arith, length-drop (at + 1) file)) in
      let s : Spells file at (at + 1 + k) (k ∷ v) = join at (at + 1) (at + 1 + k) (k ∷ []) v (byte at (ltb→lt at (length file) a.0)) (part (at + 1) k l) in
      subst (λ (z : Read (List ℕ)). Spells file at z.next (list_bytes z.value)) (accept-inj c.1) (subst (λ (j : ℕ). Spells file at (at + 1 + k) (j ∷ v)) (sym m) s)

  lists-spell : (n rank at : ℕ) (r : Read (List (List ℕ))) → at ≤ length file → lists_at n rank file at ≡ accept r → Spells file at r.next (lists_bytes r.value) × (length r.value ≡ rank)
  unfolding lists_at lists_bytes
  lists-spell n zero at r h e = subst (λ (z : Read (List (List ℕ))). Spells file at z.next (lists_bytes z.value) × (length z.value ≡ 0)) (accept-inj e) (nothing at h, refl)
  lists-spell n (suc rank) at r h e =
      let l = bind_inv (list_read_at n file at) _ r e in
      let ls = bind_inv (lists_at n rank file l.0.next) _ r l.2 in
      let a : Spells file at l.0.next (list_bytes l.0.value) = list-spells n at l.0 l.1 in
      let b : Spells file l.0.next ls.0.next (lists_bytes ls.0.value) × (length ls.0.value ≡ rank) = lists-spell n rank l.0.next ls.0 a.inside ls.1 in
      subst (λ (z : Read (List (List ℕ))). Spells file at z.next (lists_bytes z.value) × (length z.value ≡ suc rank)) (accept-inj ls.2)
      (join at l.0.next ls.0.next (list_bytes l.0.value) (lists_bytes ls.0.value) a b.0, ap suc b.1)

  replicated-spells : (e n at : ℕ) (r : Read (List ℕ)) → at ≤ length file → replicated_at (carries_replicated e) n file at ≡ accept r
      → Spells file at r.next (replicated_bytes e r.value) × (leb 2 e ≡ false → r.value ≡ [])
  unfolding replicated_at replicated_bytes
  replicated-spells e n at r h q = go (leb 2 e) q
    where
      go : (b : Bool) → replicated_at b n file at ≡ accept r → Spells file at r.next (pick b (list_bytes r.value) []) × (b ≡ false → r.value ≡ [])
      go true q = (list-spells n at r q, λ z. absurd (subst (λ (b : Bool). T b) z tt))
      go false q =
          subst (λ (x : Read (List ℕ)). Spells file at x.next [] × (false ≡ false → x.value ≡ [])) (accept-inj q) (nothing at h, λ z. refl)

  pub sharding-spells : (e n rank offset at : ℕ) (r : Read Sharding) → at ≤ length file → sharding_at (carries_replicated e) n rank offset file at ≡ accept r
      → Spells file at r.next (sharding_bytes e r.value) × (offset ≡ at) × (leb 2 e ≡ false → r.value.replicated ≡ [])
  unfolding sharding_at sharding_bytes
  sharding-spells e n rank offset at r h q =
      let o = need-inv 0 (eqb offset at) 6 _ r q in
      let ds = bind_inv (lists_at n rank file at) _ r o.1 in
      let u = bind_inv (list_read_at n file ds.0.next) _ r ds.2 in
      let v = bind_inv (replicated_at (carries_replicated e) n file u.0.next) _ r u.2 in
      let a : Spells file at ds.0.next (lists_bytes ds.0.value) = (lists-spell n rank at ds.0 h ds.1).0 in
      let b : Spells file ds.0.next u.0.next (list_bytes u.0.value) = list-spells n ds.0.next u.0 u.1 in
      let c = replicated-spells e n u.0.next v.0 b.inside v.1 in
      subst (λ (z : Read Sharding). Spells file at z.next (sharding_bytes e z.value) × (offset ≡ at) × (leb 2 e ≡ false → z.value.replicated ≡ [])) (accept-inj v.2) (
        join at ds.0.next v.0.next (lists_bytes ds.0.value) (list_bytes u.0.value ++ replicated_bytes e v.0.value) a
            (join ds.0.next u.0.next v.0.next (list_bytes u.0.value) (replicated_bytes e v.0.value) b c.0),
        eqb→eq offset at o.0,
        c.1,
      )

-- ---- a step

abbrev code_of : Kind → ℕ
code_of AllSlice = 1
code_of AllGather = 2
code_of AllReduce = 3
code_of AllToAll = 4
code_of ReduceScatter = 5
code_of Unknown = 0

kind-is : (b : ℕ) → (code_of (kind_of b) ≡ b) ⊎ (kind_of b ≡ Unknown)
kind-is b = ⊎_elim (λ t. inl (subst (λ (z : ℕ). code_of (kind_of z) ≡ z) (sym (eqb→eq b 1 t)) refl))
    (λ n₁. ⊎_elim (λ t. inl (subst (λ (z : ℕ). code_of (kind_of z) ≡ z) (sym (eqb→eq b 2 t)) refl))
    (λ n₂. ⊎_elim (λ t. inl (subst (λ (z : ℕ). code_of (kind_of z) ≡ z) (sym (eqb→eq b 3 t)) refl))
    (λ n₃. ⊎_elim (λ t. inl (subst (λ (z : ℕ). code_of (kind_of z) ≡ z) (sym (eqb→eq b 4 t)) refl))
    (λ n₄. ⊎_elim (λ t. inl (subst (λ (z : ℕ). code_of (kind_of z) ≡ z) (sym (eqb→eq b 5 t)) refl))
    (λ n₅. inr (rw (off (eqb b 1) n₁, off (eqb b 2) n₂, off (eqb b 3) n₃, off (eqb b 4) n₄, off (eqb b 5) n₅))) (T? (eqb b 5))) (T? (eqb b 4))) (T? (eqb b 3))) (T? (eqb b 2))) (T? (eqb b 1))
  where
    off : (t : Bool) → T (not t) → t ≡ false
    off true h = absurd h
    off false h = refl

module _ (file : List ℕ) where
  -- what follows the kind byte
  rest-spells : (n rank k at : ℕ) (kind : Kind) (r : Read Step) → at ≤ length file → lists_of n rank k file at kind ≡ accept r
      → (bytes : List ℕ) × (step_bytes r.value ≡ code_of kind ∷ bytes) × Spells file at r.next bytes
  unfolding lists_of step_bytes
  rest-spells n rank k at AllSlice r h e =
      let l = bind_inv (lists_at n rank file at) _ r e in
      let s : Spells file at l.0.next (lists_bytes l.0.value) = (lists-spell file n rank at l.0 h l.1).0 in
      subst (λ (z : Read Step). (bytes : List ℕ) × (step_bytes z.value ≡ 1 ∷ bytes) × Spells file at z.next bytes) (accept-inj l.2) (lists_bytes l.0.value, refl, s)
  rest-spells n rank k at AllGather r h e =
      let l = bind_inv (lists_at n rank file at) _ r e in
      let s : Spells file at l.0.next (lists_bytes l.0.value) = (lists-spell file n rank at l.0 h l.1).0 in
      subst (λ (z : Read Step). (bytes : List ℕ) × (step_bytes z.value ≡ 2 ∷ bytes) × Spells file at z.next bytes) (accept-inj l.2) (lists_bytes l.0.value, refl, s)
  rest-spells n rank k at AllReduce r h e =
      let l = bind_inv (list_read_at n file at) _ r e in
      let s : Spells file at l.0.next (list_bytes l.0.value) = list-spells file n at l.0 l.1 in
      subst (λ (z : Read Step). (bytes : List ℕ) × (step_bytes z.value ≡ 3 ∷ bytes) × Spells file at z.next bytes) (accept-inj l.2) (list_bytes l.0.value, refl, s)
  rest-spells n rank k at AllToAll r h e =
      let o = need-inv 0 (leb (at + 2) (length file)) 7 _ r e in
      let l = bind_inv (list_read_at n file (at + 2)) _ r o.1 in
      let h2 : at + 2 ≤ length file = leb→le (at + 2) (length file) o.0 in
      let second : Spells file (at + 1) (at + 2) (get_or file (at + 1) 0 ∷ []) = subst (λ (j : ℕ). Spells file (at + 1) j (get_or file (at + 1) 0 ∷ [])) (omega arith) (byte file (at + 1) (omega arith)) in
      let s : Spells file at l.0.next (get_or file at 0 ∷ get_or file (at + 1) 0 ∷ list_bytes l.0.value) =
      join file at (at + 1) l.0.next (get_or file at 0 ∷ []) (get_or file (at + 1) 0 ∷ list_bytes l.0.value) (byte file at (omega arith))
      (join file (at + 1) (at + 2) l.0.next (get_or file (at + 1) 0 ∷ []) (list_bytes l.0.value) second (list-spells file n (at + 2) l.0 l.1)) in
      subst (λ (z : Read Step). (bytes : List ℕ) × (step_bytes z.value ≡ 4 ∷ bytes) × Spells file at z.next bytes) (accept-inj l.2)
      (get_or file at 0 ∷ get_or file (at + 1) 0 ∷ list_bytes l.0.value, refl, s)
  rest-spells n rank k at ReduceScatter r h e =
      let l = bind_inv (lists_at n rank file at) _ r e in
      let s : Spells file at l.0.next (lists_bytes l.0.value) = (lists-spell file n rank at l.0 h l.1).0 in
      subst (λ (z : Read Step). (bytes : List ℕ) × (step_bytes z.value ≡ 5 ∷ bytes) × Spells file at z.next bytes) (accept-inj l.2) (lists_bytes l.0.value, refl, s)
  rest-spells n rank k at Unknown r h e = absurd (never e)

  no-unknown : (n rank k at : ℕ) (r : Read Step) → lists_of n rank k file at Unknown ≡ accept r → ⊥
  unfolding lists_of
  no-unknown n rank k at r e = never e

  step-spells : (n rank k at : ℕ) (r : Read Step) → step_at n rank k file at ≡ accept r → Spells file at r.next (step_bytes r.value)
  unfolding step_at
  step-spells n rank k at r e =
      let a = need-inv 0 (ltb at (length file)) 7 _ r e in
      let l : at < length file = ltb→lt at (length file) a.0 in
      let b : ℕ = get_or file at 0 in
      let w : (bytes : List ℕ) × (step_bytes r.value ≡ code_of (kind_of b) ∷ bytes) × Spells file (at + 1) r.next bytes = rest-spells n rank k (at + 1) (kind_of b) r (omega arith) a.1 in
      let c : code_of (kind_of b) ≡ b = ⊎_elim (λ x. x) (λ u. absurd (no-unknown n rank k (at + 1) r (subst (λ (z : Kind). lists_of n rank k file (at + 1) z ≡ accept r) u a.1))) (kind-is b) in
      subst (Spells file at r.next) (sym (w.1 ∙ ap (λ (j : ℕ). j ∷ w.0) c)) (join file at (at + 1) r.next (b ∷ []) w.0 (byte file at l) w.2)

-- ---- steps and repeats

steps-joined : (l m : List Record) → steps_bytes (map known (l ++ m)) ≡ steps_bytes (map known l) ++ steps_bytes (map known m)
unfolding steps_bytes
steps-joined [] m = refl
steps-joined (r ∷ l) m =
    ap (λ (b : List ℕ). given_bytes (known r) ++ b) (steps-joined l m)
    ∙ sym (append_assoc (given_bytes (known r)) (steps_bytes (map known l)) (steps_bytes (map known m)))

module _ (mesh sizes file : List ℕ) where
  abbrev Spelled : ℕ → StepsRead → Type 0
  Spelled at w = Spells file at w.next (steps_bytes (map known w.records))

  abbrev Spelling : JudgesStep → Type 0
  Spelling one = (k at : ℕ) (s : Sharding) (w : StepsRead) → at ≤ length file → one k at s ≡ accept w → Spelled at w

  plain-spells : Spelling (plain_at mesh sizes file)
  unfolding plain_at steps_bytes given_bytes
  plain-spells k at s w h e =
      let p = bind_inv (step_at (length mesh) (length sizes) k file at) _ w e in
      let q = bind_inv (judge_step mesh sizes k p.0.value s) _ w p.2 in
      subst (Spelled at) (accept-inj q.2)
      (subst (Spells file at p.0.next) (sym (append-nil (step_bytes p.0.value))) (step-spells file (length mesh) (length sizes) k at p.0 p.1))

  pub steps-spell : (one : JudgesStep) → Spelling one → (count : ℕ) → Spelling (steps_at one count)
  unfolding steps_at steps_bytes
  steps-spell one g zero k at s w h e = subst (Spelled at) (accept-inj e) (nothing file at h)
  steps-spell one g (suc count) k at s w h e =
      let t = bind_inv (one k at s) _ w e in
      let u = bind_inv (steps_at one count (k + length t.0.records) t.0.next t.0.sharding) _ w t.2 in
      let a : Spelled at t.0 = g k at s t.0 h t.1 in
      let b : Spelled t.0.next u.0 = steps-spell one g count (k + length t.0.records) t.0.next t.0.sharding u.0 a.inside u.1 in
      subst (Spelled at) (accept-inj u.2)
      (subst (Spells file at u.0.next) (sym (steps-joined t.0.records u.0.records))
      (join file at t.0.next u.0.next (steps_bytes (map known t.0.records)) (steps_bytes (map known u.0.records)) a b))

  repeat-spells : (inner : JudgesSteps) → ((count : ℕ) → Spelling (inner count)) → (k at : ℕ) (s : Sharding) (w : StepsRead)
      → get_or file at 0 ≡ 9 → repeat_at inner file k (at + 1) s ≡ accept w → Spelled at w
  unfolding steps_bytes given_bytes
  repeat-spells inner g k at s w nine e =
      let i : IsRepeat mesh sizes file inner k (at + 1) s w = repeat-inv mesh sizes file inner k (at + 1) s w e in
      let x = positive-inv mesh sizes file k (at + 1) i.count i.count_is in
      let y = positive-inv mesh sizes file k (at + 1 + 1) i.number i.number_is in
      let three : at + 1 + 1 + 1 ≡ at + 1 + 2 = omega arith in
      let a : Spells file at (at + 1) (9 ∷ []) = subst (λ (b : ℕ). Spells file at (at + 1) (b ∷ [])) nine (byte file at (omega (arith, x.0))) in
      let b : Spells file (at + 1) (at + 1 + 1) (i.count ∷ []) = subst (λ (b : ℕ). Spells file (at + 1) (at + 1 + 1) (b ∷ [])) x.2 (byte file (at + 1) x.0) in
      let c : Spells file (at + 1 + 1) (at + 1 + 2) (i.number ∷ []) =
      subst (λ (k : ℕ). Spells file (at + 1 + 1) k (i.number ∷ [])) three
      (subst (λ (b : ℕ). Spells file (at + 1 + 1) (at + 1 + 1 + 1) (b ∷ [])) y.2 (byte file (at + 1 + 1) y.0)) in
      let d : Spelled (at + 1 + 2) i.block = g i.number (k + 1) (at + 1 + 2) s i.block c.inside i.block_is in
      let bytes : List ℕ = steps_bytes (map known i.block.records) in
      subst (Spelled at) i.whole
      (join file at (at + 1) i.block.next (9 ∷ []) (i.count ∷ i.number ∷ bytes) a
      (join file (at + 1) (at + 1 + 1) i.block.next (i.count ∷ []) (i.number ∷ bytes) b
      (join file (at + 1 + 1) (at + 1 + 2) i.block.next (i.number ∷ []) bytes c d)))

  by-spells : (b : Bool) (inner : JudgesSteps) → ((count : ℕ) → Spelling (inner count)) → (k at : ℕ) (s : Sharding) (w : StepsRead) → at ≤ length file
      → is_repeat file at ≡ b → item_with b inner mesh sizes file k at s ≡ accept w → Spelled at w
  unfolding item_with
  by-spells false inner g k at s w h q e = plain-spells k at s w h e
  by-spells true inner g k at s w h q e = repeat-spells inner g k at s w (eqb→eq (get_or file at 0) 9 (subst T (sym q) tt)) e

  pub item-spells : (kinds : ℕ → Bool) (depth : ℕ) → Spelling (item_at kinds mesh sizes file depth)
  unfolding item_at
  item-spells kinds zero k at s w h e =
      by-spells (is_repeat file at) (too_deep k) (λ count k' at' s' w' h' e'. absurd (never e')) k at s w h refl (need-inv k (kinds (get_or file at 0)) 20 _ w e).1
  item-spells kinds (suc depth) k at s w h e =
      by-spells (is_repeat file at) (steps_at (item_at kinds mesh sizes file depth))
      (steps-spell (item_at kinds mesh sizes file depth) (item-spells kinds depth)) k at s w h refl (need-inv k (kinds (get_or file at 0)) 20 _ w e).1

-- ---- sizes

u16s-append : (ks ls : List ℕ) → u16s_bytes (ks ++ ls) ≡ u16s_bytes ks ++ u16s_bytes ls
unfolding u16s_bytes
u16s-append [] ls = refl
u16s-append (k ∷ ks) ls = ap (λ (l : List ℕ). u16_bytes k ++ l) (u16s-append ks ls)

-- the 16-bit number of two bytes has these bytes
two_bytes : (a b : ℕ) → a < 256 → b < 256 → u16_bytes (a + b * 256) ≡ a ∷ b ∷ []
two_bytes a b ha hb =
    let e : a + b * 256 ≡ b * 256 + a = omega arith in
    let m : (a + b * 256) % 256 ≡ a = ap (λ (z : ℕ). z % 256) e ∙ digits_mod b ha in
    let d : (a + b * 256) / 256 ≡ b = ap (λ (z : ℕ). z / 256) e ∙ digits_div b ha in
    let h : (a + b * 256) / 256 % 256 ≡ b = ap (λ (z : ℕ). z % 256) (d ∙ omega arith) ∙ digits_mod 0 hb in
    ap₂ (λ (x y : ℕ). x ∷ y ∷ []) m h

module _ (file : List ℕ) (bytes : Bytes file) where
  pub number-spells : (at : ℕ) → at + 2 ≤ length file → Spells file at (at + 2) (u16_bytes (u16_at file at))
  unfolding u16_at
  number-spells at h =
      let second : Spells file (at + 1) (at + 2) (get_or file (at + 1) 0 ∷ []) = subst (λ (j : ℕ). Spells file (at + 1) j (get_or file (at + 1) 0 ∷ [])) (omega arith) (byte file (at + 1) (omega arith)) in
      subst (Spells file at (at + 2)) (sym (two_bytes (get_or file at 0) (get_or file (at + 1) 0) (bytes at) (bytes (at + 1))))
      (join file at (at + 1) (at + 2) (get_or file at 0 ∷ []) (get_or file (at + 1) 0 ∷ []) (byte file at (omega arith)) second)

  pub numbers-spell : (at count : ℕ) → at + 2 * count ≤ length file → Spells file at (at + 2 * count) (u16s_bytes (tab count (λ i. u16_at file (at + 2 * i))))
  unfolding u16s_bytes
  numbers-spell at zero h = subst (λ (j : ℕ). Spells file at j []) (omega arith) (nothing file at (omega arith))
  numbers-spell at (suc count) h =
      let f : ℕ → ℕ = λ i. u16_at file (at + 2 * i) in
      let l : at + 2 * count + 2 ≡ at + 2 * suc count = omega arith in
      let last : Spells file (at + 2 * count) (at + 2 * suc count) (u16s_bytes (f count ∷ [])) = subst (λ (j : ℕ). Spells file (at + 2 * count) j (u16s_bytes (f count ∷ []))) l (number-spells (at + 2 * count) (omega arith)) in
      subst (Spells file at (at + 2 * suc count)) (sym (u16s-append (tab count f) (f count ∷ [])))
      (join file at (at + 2 * count) (at + 2 * suc count) (u16s_bytes (tab count f)) (u16s_bytes (f count ∷ [])) (numbers-spell at count (omega arith)) last)
