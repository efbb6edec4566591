-- Axes that stay unreduced to the end keep devices apart: no step names one (`still-unreduced`), so what steps leave on a device goes by the devices that
-- agree with it along these axes (`steps-local`). With the words of the others set to 0, the word that a device has after the steps is the factor times
-- the word of a table that is made of the words before them (`steps-word`). Assumes nothing.
use Prim.Native.Nat.{ℕ, zero, ◌%◌, ◌^◌, ◌<◌}
use mathlib.Core.Path.{◌≡◌, refl, sym, ap, ap₂, ◌∙◌, subst, fun_ext}
use mathlib.Core.Bool.{Bool, true, false}
use mathlib.Core.List.{List, [], ◌∷◌, map}
use native.Mathlib.Nat.{mod-eq_of_lt}
use native.Mathlib.Omega.{arith}
use lib.ListN.{length, get_or}
use lib.Dec.{eqb, eqb_refl, eqb→eq, lit<}
use Rattle.rules.specs.Lists.{pick, flat, in_turn, total, In, Distinct, Below}
use Rattle.rules.specs.Mesh.{span, position, member, members, Agree}
use Rattle.rules.specs.Sharding.{Sharding, varying, shard_sizes, first_indexes, IsSharding}
use Rattle.rules.specs.Spread.{StateOf, Faithful, add_words, from}
use Rattle.rules.specs.Collectives.{
  Step,
  all_slice,
  all_gather,
  all_reduce,
  all_to_all,
  reduce_scatter,
  step_axes,
  sliced,
  gathered,
  reduced,
  after,
  shape_after,
  Sources,
  sources,
  made,
  stepped,
}
use Rattle.rules.specs.Factor.{scaled, factor_of}
use Rattle.laws.proofs.Lists.{T→true, n_t→false, in_left, in_right, distinct-split, of-without, not-in-without, below_length}
use Rattle.laws.proofs.Positions.{position-agree, position-lt, below-member, position-member}
use Rattle.laws.proofs.Groups.{group_by_position}
use Rattle.laws.proofs.Sums.{sum_one, sum_over-positions, add_words-members}
use Rattle.laws.proofs.Sources.{Ready, WordsIn, step_local, step_words}
use Rattle.laws.proofs.Tables.{Alike, sums_table, sums-spread}
use Rattle.laws.proofs.Steps.{AcceptedStep, ToAll, flat-only, Varies, varies, sharding-cut, gather-sharding, to-all-sharding, after-sharding, after-shape}
use Rattle.laws.proofs.Turns.{Fine, steps-sharding}
use Rattle.laws.proofs.Next.{step-ready}
use Rattle.laws.proofs.Whole.{steps-spread}

-- ---- states with the words of some devices

-- the words of the devices that agree with z along U; the others have 0
abbrev pub masked : (mesh U z : List ℕ) → StateOf ℕ → StateOf ℕ
masked mesh U z w x i = pick (eqb (position mesh U x) (position mesh U z)) (w x i) 0

module _ (mesh U z : List ℕ) (w : StateOf ℕ) where
  masked-words : {shape : List ℕ} → WordsIn mesh shape w → WordsIn mesh shape (masked mesh U z w)
  masked-words ws x i bx bi = go (eqb (position mesh U x) (position mesh U z))
    where
      go : (t : Bool) → pick t (w x i) 0 < 2 ^ 32
      go true = ws x i bx bi
      go false = lit< tt

  masked-alike : (s : Sharding) {shape : List ℕ} → ((a : ℕ) → In a U → In a s.unreduced) → Alike mesh s shape w → Alike mesh s shape (masked mesh U z w)
  masked-alike s sub alike x y i bx by bi g =
      ap₂ (λ (p v : ℕ). pick (eqb p (position mesh U z)) v 0)
      (position-agree mesh U x y (λ a u. g a (in_right a (flat s.dims) s.unreduced (sub a u)))) (alike x y i bx by bi g)

  masked-in : (x i : List ℕ) → position mesh U x ≡ position mesh U z → masked mesh U z w x i ≡ w x i
  masked-in x i e =
      ap (λ (t : Bool). pick t (w x i) 0) (ap (λ (p : ℕ). eqb p (position mesh U z)) e ∙ T→true (eqb (position mesh U z) (position mesh U z)) (eqb_refl (position mesh U z)))

  masked-out : (x i : List ℕ) → ¬ (position mesh U x ≡ position mesh U z) → masked mesh U z w x i ≡ 0
  masked-out x i n = ap (λ (t : Bool). pick t (w x i) 0) (n_t→false (eqb (position mesh U x) (position mesh U z)) (λ t. n (eqb→eq (position mesh U x) (position mesh U z) t)))

-- sums of zeros
zeros : {A : Type 0} (l : List A) → add_words (map (λ a. 0) l) ≡ 0
unfolding add_words
zeros [] = refl
zeros (a ∷ []) = refl
zeros {A} (a ∷ b ∷ l) = ap (λ (n : ℕ). n % 2 ^ 32) (none (a ∷ b ∷ l))
  where
    none : (l : List A) → total (map (λ a. 0) l) ≡ 0
    none [] = refl
    none (a ∷ l) = omega (arith, none l)

made-zero : (s : Sources) → made add_words s (λ x i. 0) ≡ (λ x i. 0)
unfolding made
made-zero s = fun_ext (λ x. fun_ext (λ i. zeros (s x i)))

module _ (mesh sizes : List ℕ) (pos : (a : ℕ) → zero < get_or mesh a 1) where
  abbrev shape_of : Sharding → List ℕ
  shape_of s = shard_sizes mesh sizes s.dims

  -- the words that steps in turn leave
  abbrev pub left : List Step → (shape : List ℕ) → StateOf ℕ → StateOf ℕ
  left ts shape w = (in_turn (stepped add_words mesh) ts (record { shape = shape; words = w })).words

  -- ---- axes that stay unreduced

  -- an axis that is unreduced after an accepted step was so before, and the step does not name it
  step-unreduced : (t : Step) (s : Sharding) → IsSharding mesh sizes s → AcceptedStep mesh sizes t s
      → (a : ℕ) → In a (after t s).unreduced → In a s.unreduced × (¬ In a (step_axes t))
  unfolding after sliced gathered reduced
  step-unreduced (all_slice Ss) s h f a i =
      (i, λ j. f.by_kind.off a j (in_left a (varying s) s.replicated (in_right a (flat s.dims) s.unreduced i)))
  step-unreduced (all_gather Gs) s h f a i =
      (i, λ j. (distinct-split (flat s.dims) s.unreduced (varies mesh sizes s h).once).2 a ((gather-sharding mesh sizes pos Gs s h f.by_kind).cut_off a j) i)
  step-unreduced (all_reduce L) s h f a i = (of-without a L s.unreduced i, λ j. not-in-without a L s.unreduced j i)
  step-unreduced (all_to_all source target L) s h f a i =
      let k : ToAll mesh sizes pos source target L s = to-all-sharding mesh sizes pos source target L s h f.axes f.by_kind in (
        i,
        λ j. (distinct-split (flat s.dims) s.unreduced (varies mesh sizes s h).once).2 a
            (k.first.cut_off a (subst (In a) (sym (flat-only (length s.dims) source L f.by_kind.source-lt)) j)) i,
      )
  step-unreduced (reduce_scatter Ss) s h f a i = (of-without a (flat Ss) s.unreduced i, λ j. not-in-without a (flat Ss) s.unreduced j i)

  still-unreduced : (ts : List Step) (s : Sharding) → IsSharding mesh sizes s → Fine mesh sizes s ts
      → (a : ℕ) → In a (in_turn after ts s).unreduced → In a s.unreduced
  still-unreduced [] s h f a i = i
  still-unreduced (t ∷ ts) s h f a i =
      (step-unreduced t s h f.0 a (still-unreduced ts (after t s) (after-sharding mesh sizes pos t s h f.0) f.1 a i)).0

  -- ---- steps in turn

  -- what they make of words are words
  steps-words : (ts : List Step) (s : Sharding) (shape : List ℕ) (w : StateOf ℕ) → IsSharding mesh sizes s → Fine mesh sizes s ts → shape ≡ shape_of s
      → WordsIn mesh shape w → WordsIn mesh (shape_of (in_turn after ts s)) (left ts shape w)
  unfolding stepped
  steps-words [] s shape w h f e ws = subst (λ (z : List ℕ). WordsIn mesh z w) e ws
  steps-words (t ∷ ts) s shape w h f e ws =
      steps-words ts (after t s) (shape_after mesh t shape) (made add_words (sources mesh t shape) w) (after-sharding mesh sizes pos t s h f.0) f.1
      (ap (shape_after mesh t) e ∙ after-shape mesh sizes pos t s h f.0)
      (step_words mesh t shape w (subst (Ready mesh t) (sym e) (step-ready mesh sizes pos t s h f.0)) ws)

  -- Two states that agree on the devices that agree with x, along axes that stay unreduced, give x the same words.
  pub steps-local : (ts : List Step) (s : Sharding) (U shape : List ℕ) (v w : StateOf ℕ) → IsSharding mesh sizes s → Fine mesh sizes s ts → shape ≡ shape_of s
      → ((a : ℕ) → In a U → In a (in_turn after ts s).unreduced) → (x : List ℕ) → Below x mesh
      → ((y i : List ℕ) → Below y mesh → Below i shape → Agree (λ a. In a U) x y → v y i ≡ w y i)
      → (i : List ℕ) → Below i (shape_of (in_turn after ts s)) → left ts shape v x i ≡ left ts shape w x i
  unfolding stepped
  steps-local [] s U shape v w h f e sub x bx same i bi = same x i bx (subst (Below i) (sym e) bi) (λ a u. refl)
  steps-local (t ∷ ts) s U shape v w h f e sub x bx same i bi =
      let h' : IsSharding mesh sizes (after t s) = after-sharding mesh sizes pos t s h f.0 in
      let off : (a : ℕ) → In a U → ¬ In a (step_axes t) = λ a u. (step-unreduced t s h f.0 a (still-unreduced ts (after t s) h' f.1 a (sub a u))).1 in
      steps-local ts (after t s) U (shape_after mesh t shape) (made add_words (sources mesh t shape) v) (made add_words (sources mesh t shape) w) h' f.1
      (ap (shape_after mesh t) e ∙ after-shape mesh sizes pos t s h f.0) sub x bx
      (λ y j by bj g. step_local mesh add_words t shape v w y j (subst (Ready mesh t) (sym e) (step-ready mesh sizes pos t s h f.0)) by bj
      (λ y' k by' bk near. same y' k by' bk (λ a u. g a u ∙ near a (off a u)))) i bi

  -- zeros stay zeros
  steps-zero : (ts : List Step) (shape x i : List ℕ) → left ts shape (λ y j. 0) x i ≡ 0
  unfolding stepped
  steps-zero [] shape x i = refl
  steps-zero (t ∷ ts) shape x i =
      ap (λ (w : StateOf ℕ). left ts (shape_after mesh t shape) w x i) (made-zero (sources mesh t shape)) ∙ steps-zero ts (shape_after mesh t shape) x i

  -- ---- the word of a device after steps

  module _ (ts : List Step) (s : Sharding) (h : IsSharding mesh sizes s) (f : Fine mesh sizes s ts) (w : StateOf ℕ) (ws : WordsIn mesh (shape_of s) w)
      (z : List ℕ) (bz : Below z mesh) (i : List ℕ) (bi : Below i (shape_of (in_turn after ts s))) where
    abbrev last : Sharding
    last = in_turn after ts s

    abbrev U : List ℕ
    U = last.unreduced

    abbrev part : StateOf ℕ
    part = masked mesh U z w

    owed : Distinct U × ((a : ℕ) → In a U → a < length mesh)
    owed =
        let v : Varies mesh sizes last = varies mesh sizes last (steps-sharding mesh sizes pos s ts h f) in
        ((distinct-split (flat last.dims) U v.once).1, λ a u. v.of_mesh a (in_right a (flat last.dims) U u))

    -- z has its own word, the others of its group have 0
    own : left ts (shape_of s) part z i ≡ left ts (shape_of s) w z i
    own =
        steps-local ts s U (shape_of s) part w h f refl (λ a u. u) z bz (λ y j by bj g. masked-in mesh U z w y j (sym (position-agree mesh U z y g))) i bi

    none : (q : ℕ) → q < span mesh U → ¬ (q ≡ position mesh U z) → left ts (shape_of s) part (member mesh U q z) i ≡ 0
    none q l n =
        let y : List ℕ = member mesh U q z in
        let e : position mesh U y ≡ q = position-member mesh U q z owed.0 (λ a u. rw (below_length bz) (owed.1 a u)) l in
        steps-local ts s U (shape_of s) part (λ y j. 0) h f refl (λ a u. u) y (below-member mesh U q l bz)
        (λ y' j by bj g. masked-out mesh U z w y' j (λ d. n (sym e ∙ position-agree mesh U y y' g ∙ d))) i bi
        ∙ steps-zero ts (shape_of s) y i

    -- so that its group's sum is z's word
    sum-own : add_words (map (λ y. left ts (shape_of s) part y i) (members mesh U z)) ≡ left ts (shape_of s) w z i
    sum-own =
        let k : ℕ = position mesh U z in
        add_words-members (λ y. left ts (shape_of s) part y i) mesh U z bz owed.0
        (λ y by g. steps-words ts s (shape_of s) part h f refl (masked-words mesh U z w ws) y i by bi)
        ∙ ap (λ (n : ℕ). n % 2 ^ 32) (sum_over-positions mesh U (λ y. left ts (shape_of s) part y i) z owed.0
        ∙ sum_one (span mesh U) k (λ q. left ts (shape_of s) part (member mesh U q z) i) (position-lt mesh U bz) none
        ∙ ap (λ (y : List ℕ). left ts (shape_of s) part y i) ((group_by_position mesh U owed.0 owed.1 bz).has z bz (λ a off. refl)).1 ∙ own)
        ∙ mod-eq_of_lt (steps-words ts s (shape_of s) w h f refl ws z i bz bi)

    -- z's word is the factor times that of a table that is made of the words before the steps
    pub steps-word : Alike mesh s (shape_of s) w
        → left ts (shape_of s) w z i
        ≡ scaled (factor_of mesh ts s) (sums_table mesh s (shape_of s) z part) (from (first_indexes mesh last.dims (shape_of last) z) i)
    steps-word alike =
        let v : Varies mesh sizes s = varies mesh sizes s h in
        let spread : Faithful add_words mesh s (shape_of s) (sums_table mesh s (shape_of s) z part) part =
        sums-spread (sharding-cut mesh sizes pos s h) v.once v.of_mesh bz (masked-alike mesh U z w s (still-unreduced ts s h f) alike) in
        sym sum-own ∙ (steps-spread mesh sizes pos ts s _ (record { shape = shape_of s; words = part }) h f refl (masked-words mesh U z w ws) spread).sums z i bz bi
