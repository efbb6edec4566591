-- Laws of the rules' lists (specs/Lists.antt): tabulated lists, entries place by place, membership, lists without repeats, and what a test keeps.
-- Everything above rests on these; they know nothing of meshes. Assumes nothing.
use Prim.Native.Nat.{ℕ, zero, suc, ◌-◌, ◌<◌, ◌≤◌}
use mathlib.Core.Path.{◌≡◌, refl, sym, ap, ap₂, ◌∙◌, subst}
use mathlib.Core.Logic.{◌⊎◌, inl, inr, ⊎_map, ⊎_elim, ◌≢◌}
use mathlib.Core.Bool.{Bool, true, false, not, ◌&&◌, ◌||◌}
use mathlib.Core.List.{List, [], ◌∷◌, ◌++◌, map, map-append}
use native.Mathlib.Omega.{arith}
use native.Mathlib.Decide.{ℕ_discrete}
use lib.ListN.{length, get_or, take, drop, replicate, length-append, get_or-append}
use lib.Seq.{drop-cons, get_or_at}
use lib.Dec.{T, T_not, not_T, eqb, eqb_refl, eqb→eq}
use Rattle.rules.specs.Lists.{tab, each, both, in_turn, pick, flat, mem, keep, without, ascending, In, Distinct, All, done, ◌&◌, Below, none, more}

-- ---- tabulated lists

pub length-tab {ℓ} : {A : Type ℓ} (n : ℕ) (f : ℕ → A) → length (tab n f) ≡ n
length-tab zero f = refl
length-tab (suc n) f = length-append (tab n f) (f n ∷ []) ∙ omega (arith, length-tab n f)

pub get_or-tab {ℓ} : {A : Type ℓ} (n k : ℕ) (f : ℕ → A) (z : A) → k < n → get_or (tab n f) k z ≡ f k
get_or-tab zero k f z h = absurd (omega arith)
get_or-tab {A = A} (suc n) k f z h = go (ℕ_discrete k n) (λ l. get_or-tab n k f z l)
  where
    go : Dec (k ≡ n) → (k < n → get_or (tab n f) k z ≡ f k) → get_or (tab n f ++ f n ∷ []) k z ≡ f k
    go (yes e) ih = ap (λ (j : ℕ). get_or (tab n f ++ f n ∷ []) j z) e ∙ get_or_at (tab n f) (f n) [] z n (length-tab n f) ∙ ap f (sym e)
    go (no d) ih =
        let l : k < n = omega (arith, d) in
        get_or-append (tab n f) (f n ∷ []) z k (omega (arith, length-tab n f)) ∙ ih l

pub tab-cong {ℓ} : {A : Type ℓ} (n : ℕ) (f g : ℕ → A) → ((k : ℕ) → k < n → f k ≡ g k) → tab n f ≡ tab n g
tab-cong zero f g h = refl
tab-cong {A = A} (suc n) f g h = ap₂ (λ (l : List A) (a : A). l ++ a ∷ []) (tab-cong n f g (λ k l. h k (omega arith))) (h n (omega arith))

pub map-tab {ℓ} : {A B : Type ℓ} (f : A → B) (n : ℕ) (g : ℕ → A) → map f (tab n g) ≡ tab n (λ k. f (g k))
map-tab f zero g = refl
map-tab {B = B} f (suc n) g = map-append f (tab n g) (g n ∷ []) ∙ ap (λ (l : List B). l ++ f (g n) ∷ []) (map-tab f n g)

-- ---- place by place

pub length-each : {A B C : Type 0} (f : A → B → C) (xs : List A) (ys : List B) → length xs ≡ length ys → length (each f xs ys) ≡ length ys
length-each f [] ys e = e
length-each f (x ∷ xs) [] e = refl
length-each f (x ∷ xs) (y ∷ ys) e = ap suc (length-each f xs ys (omega arith))

-- the first entries of one entry repeated
pub take-replicate : {A : Type 0} (a : A) (n m : ℕ) → n ≤ m → take n (replicate m a) ≡ replicate n a
take-replicate a zero m h = refl
take-replicate a (suc n) zero h = absurd (omega arith)
take-replicate {A = A} a (suc n) (suc m) h = ap (λ (l : List A). a ∷ l) (take-replicate a n m (omega arith))

-- an entry that is there does not depend on what stands for one that is not
pub any-default : (l : List ℕ) (a x y : ℕ) → a < length l → get_or l a x ≡ get_or l a y
any-default [] a x y h = absurd (omega arith)
any-default (b ∷ l) zero x y h = refl
any-default (b ∷ l) (suc a) x y h = any-default l a x y (omega arith)

-- f of one list in turn, and then of another
pub in-turn-append : {A B : Type 0} (f : A → B → B) (l m : List A) (b : B) → in_turn f (l ++ m) b ≡ in_turn f m (in_turn f l b)
in-turn-append f [] m b = refl
in-turn-append f (a ∷ l) m b = in-turn-append f l m (f a b)

-- ---- P of each entry

pub all_append : {A : Type 0} (P : A → Type 0) (l m : List A) → All P l → All P m → All P (l ++ m)
all_append P [] m done q = q
all_append P (a ∷ l) m (h & p) q = h & all_append P l m p q

pub all-tab : {A : Type 0} (P : A → Type 0) (n : ℕ) (f : ℕ → A) → ((k : ℕ) → k < n → P (f k)) → All P (tab n f)
all-tab P zero f h = done
all-tab P (suc n) f h = all_append P (tab n f) (f n ∷ []) (all-tab P n f (λ k l. h k (omega arith))) (h n (omega arith) & done)

pub all_map : {A B : Type 0} (P : B → Type 0) (f : A → B) (l : List A) → All (λ a. P (f a)) l → All P (map f l)
all_map P f [] done = done
all_map P f (a ∷ l) (h & p) = h & all_map P f l p

pub all-imp : {A : Type 0} (P Q : A → Type 0) (l : List A) → ((a : A) → P a → Q a) → All P l → All Q l
all-imp P Q [] f done = done
all-imp P Q (a ∷ l) f (h & p) = f a h & all-imp P Q l f p

-- two functions that agree on a list's entries make one list of it
pub map-all : {A B : Type 0} (f g : A → B) (l : List A) → All (λ a. f a ≡ g a) l → map f l ≡ map g l
map-all f g [] done = refl
map-all {B = B} f g (a ∷ l) (h & p) = ap₂ (λ (b : B) (m : List B). b ∷ m) h (map-all f g l p)

-- ---- membership

pub in_left : (a : ℕ) (l m : List ℕ) → In a l → In a (l ++ m)
in_left a [] m x' = elim x' [ ]
in_left a (b ∷ l) m (inl e) = inl e
in_left a (b ∷ l) m (inr i) = inr (in_left a l m i)

pub in_right : (a : ℕ) (l m : List ℕ) → In a m → In a (l ++ m)
in_right a [] m i = i
in_right a (b ∷ l) m i = inr (in_right a l m i)

pub in-append : (a : ℕ) (l m : List ℕ) → In a (l ++ m) → In a l ⊎ In a m
in-append a [] m i = inr i
in-append a (b ∷ l) m (inl e) = inl (inl e)
in-append a (b ∷ l) m (inr i) = ⊎_map inr (λ j. j) (in-append a l m i)

-- an entry of one of the lists is one of all
pub in-flat : (a : ℕ) (l : List ℕ) (ls : List (List ℕ)) → In a l ⊎ In a (flat ls) → In a (flat (l ∷ ls))
in-flat a l ls h = ⊎_elim (in_left a l (flat ls)) (in_right a l (flat ls)) h

pub flat_in : (a : ℕ) (l : List ℕ) (ls : List (List ℕ)) → In a (flat (l ∷ ls)) → In a l ⊎ In a (flat ls)
flat_in a l ls i = in-append a l (flat ls) i

-- one of the lists by its place
pub at-flat : (a : ℕ) (ls : List (List ℕ)) (d : ℕ) → In a (get_or ls d []) → In a (flat ls)
at-flat a [] d i = absurd i
at-flat a (l ∷ ls) zero i = in_left a l (flat ls) i
at-flat a (l ∷ ls) (suc d) i = in_right a l (flat ls) (at-flat a ls d i)

-- the entries of joined lists are those of the two
pub joined-left : (a : ℕ) (ds Ss : List (List ℕ)) → length ds ≡ length Ss → In a (flat ds) → In a (flat (each ◌++◌ ds Ss))
joined-left a [] Ss e i = absurd i
joined-left a (d ∷ ds) [] e i = absurd (omega arith)
joined-left a (d ∷ ds) (S ∷ Ss) e i =
    in-flat a (d ++ S) (each ◌++◌ ds Ss) (⊎_map (in_left a d S) (joined-left a ds Ss (omega arith)) (flat_in a d ds i))

pub joined-right : (a : ℕ) (ds Ss : List (List ℕ)) → length ds ≡ length Ss → In a (flat Ss) → In a (flat (each ◌++◌ ds Ss))
joined-right a [] [] e i = absurd i
joined-right a [] (S ∷ Ss) e i = absurd (omega arith)
joined-right a (d ∷ ds) [] e i = absurd i
joined-right a (d ∷ ds) (S ∷ Ss) e i =
    in-flat a (d ++ S) (each ◌++◌ ds Ss) (⊎_map (in_right a d S) (joined-right a ds Ss (omega arith)) (flat_in a S Ss i))

pub of-joined : (a : ℕ) (ds Ss : List (List ℕ)) → In a (flat (each ◌++◌ ds Ss)) → In a (flat ds) ⊎ In a (flat Ss)
of-joined a [] Ss i = absurd i
of-joined a (d ∷ ds) [] i = absurd i
of-joined a (d ∷ ds) (S ∷ Ss) i = go (flat_in a (d ++ S) (each ◌++◌ ds Ss) i) (of-joined a ds Ss)
  where
    go : In a (d ++ S) ⊎ In a (flat (each ◌++◌ ds Ss)) → (In a (flat (each ◌++◌ ds Ss)) → In a (flat ds) ⊎ In a (flat Ss))
        → In a (flat (d ∷ ds)) ⊎ In a (flat (S ∷ Ss))
    go (inl j) ih = ⊎_map (in_left a d (flat ds)) (in_left a S (flat Ss)) (in-append a d S j)
    go (inr j) ih = ⊎_map (in_right a d (flat ds)) (in_right a S (flat Ss)) (ih j)

-- ---- tests

pub T→true : (b : Bool) → T b → b ≡ true
T→true true t = refl
T→true false t = absurd t

pub n_t→false : (b : Bool) → ¬ T b → b ≡ false
n_t→false true t = absurd (t tt)
n_t→false false t = refl

pub T? : (b : Bool) → T b ⊎ T (not b)
T? true = inl tt
T? false = inr tt

pub T_and : (a b : Bool) → T (a && b) → T a × T b
T_and true b t = (tt, t)
T_and false b t = absurd t

pub and_T : (a b : Bool) → T a → T b → T (a && b)
and_T true b s t = t
and_T false b s t = absurd s

pub T-or : (a b : Bool) → T (a || b) → T a ⊎ T b
T-or true b t = inl tt
T-or false b t = inr t

pub or-T : (a b : Bool) → T a ⊎ T b → T (a || b)
or-T true b h = tt
or-T false b (inl t) = absurd t
or-T false b (inr t) = t

pub mem-in : (a : ℕ) (l : List ℕ) → T (mem a l) → In a l
unfolding mem
mem-in a [] t = t
mem-in a (b ∷ l) t = ⊎_map (eqb→eq a b) (mem-in a l) (T-or (eqb a b) (mem a l) t)

pub in_mem : (a : ℕ) (l : List ℕ) → In a l → T (mem a l)
unfolding mem
in_mem a [] i = i
in_mem a (b ∷ l) i = or-T (eqb a b) (mem a l) (⊎_map (λ e. subst (λ z. T (eqb a z)) e (eqb_refl a)) (in_mem a l) i)

pub not-mem : (a : ℕ) (l : List ℕ) → T (not (mem a l)) → ¬ In a l
not-mem a l t i = T_not (mem a l) t (in_mem a l i)

pub mem-not : (a : ℕ) (l : List ℕ) → ¬ In a l → T (not (mem a l))
mem-not a l off = not_T (mem a l) (λ t. off (mem-in a l t))

-- two lists that both pass a test place by place are of one length
pub both-length : {A B : Type 0} (t : A → B → Bool) (xs : List A) (ys : List B) → T (both t xs ys) → length xs ≡ length ys
both-length t [] [] h = refl
both-length t [] (y ∷ ys) h = absurd h
both-length t (x ∷ xs) [] h = absurd h
both-length t (x ∷ xs) (y ∷ ys) h = ap suc (both-length t xs ys (T_and (t x y) (both t xs ys) h).1)

-- ---- lists without repeats

pub distinct-split : (l m : List ℕ) → Distinct (l ++ m) → Distinct l × Distinct m × ((a : ℕ) → In a l → ¬ In a m)
distinct-split [] m h = (tt, h, λ a i. absurd i)
distinct-split (b ∷ l) m h =
    let r : Distinct l × Distinct m × ((a : ℕ) → In a l → ¬ In a m) = distinct-split l m h.1 in
    (((λ i. h.0 (in_left b l m i)), r.0), r.1, λ a i j. ⊎_elim (λ e. h.0 (in_right b l m (subst (λ z. In z m) e j))) (λ k. r.2 a k j) i)

pub distinct_append : (l m : List ℕ) → Distinct l → Distinct m → ((a : ℕ) → In a m → ¬ In a l) → Distinct (l ++ m)
distinct_append [] m hl hm off = hm
distinct_append (b ∷ l) m hl hm off =
    ((λ i. ⊎_elim (λ j. hl.0 j) (λ j. off b j (inl refl)) (in-append b l m i)), distinct_append l m hl.1 hm (λ a i j. off a i (inr j)))

pub distinct-at : (ls : List (List ℕ)) (d : ℕ) → Distinct (flat ls) → Distinct (get_or ls d [])
distinct-at [] d h = tt
distinct-at (l ∷ ls) zero h = (distinct-split l (flat ls) h).0
distinct-at (l ∷ ls) (suc d) h = distinct-at ls d (distinct-split l (flat ls) h).1

-- joined place by place, and taken apart again
pub distinct-joined : (ds Ss : List (List ℕ)) → Distinct (flat ds) → Distinct (flat Ss) → ((a : ℕ) → In a (flat Ss) → ¬ In a (flat ds))
    → Distinct (flat (each ◌++◌ ds Ss))
distinct-joined [] Ss hd hS off = tt
distinct-joined (d ∷ ds) [] hd hS off = tt
distinct-joined (d ∷ ds) (S ∷ Ss) hd hS off =
    let p : Distinct d × Distinct (flat ds) × ((a : ℕ) → In a d → ¬ In a (flat ds)) = distinct-split d (flat ds) hd in
    let q : Distinct S × Distinct (flat Ss) × ((a : ℕ) → In a S → ¬ In a (flat Ss)) = distinct-split S (flat Ss) hS in
    let l : (a : ℕ) → In a d → In a (flat (d ∷ ds)) = λ a i. in_left a d (flat ds) i in
    let r : (a : ℕ) → In a (flat ds) → In a (flat (d ∷ ds)) = λ a i. in_right a d (flat ds) i in
    let m : (a : ℕ) → In a S → In a (flat (S ∷ Ss)) = λ a i. in_left a S (flat Ss) i in
    let n : (a : ℕ) → In a (flat Ss) → In a (flat (S ∷ Ss)) = λ a i. in_right a S (flat Ss) i in
    distinct_append (d ++ S) (flat (each ◌++◌ ds Ss)) (distinct_append d S p.0 q.0 (λ a i j. off a (m a i) (l a j)))
    (distinct-joined ds Ss p.1 q.1 (λ a i j. off a (n a i) (r a j)))
    (λ a u i. ⊎_elim (λ j. ⊎_elim (λ v. p.2 a j v) (λ v. off a (n a v) (l a j)) (of-joined a ds Ss u))
    (λ j. ⊎_elim (λ v. off a (m a j) (r a v)) (λ v. q.2 a j v) (of-joined a ds Ss u)) (in-append a d S i))

-- two families of lists have no axis twice, and none in common
pub record Apart (ds Ss : List (List ℕ)) : Type 0 where
  pub left : Distinct (flat ds)
  pub right : Distinct (flat Ss)
  pub off : (a : ℕ) → In a (flat Ss) → ¬ In a (flat ds)

pub split-joined : (ds Ss : List (List ℕ)) → length ds ≡ length Ss → Distinct (flat (each ◌++◌ ds Ss)) → Apart ds Ss
split-joined [] [] e h = record { left = tt; right = tt; off = λ a i. absurd i }
split-joined [] (S ∷ Ss) e h = absurd (omega arith)
split-joined (d ∷ ds) [] e h = absurd (omega arith)
split-joined (d ∷ ds) (S ∷ Ss) e h =
    let k : length ds ≡ length Ss = omega arith in
    let p : Distinct (d ++ S) × Distinct (flat (each ◌++◌ ds Ss)) × ((a : ℕ) → In a (d ++ S) → ¬ In a (flat (each ◌++◌ ds Ss))) =
    distinct-split (d ++ S) (flat (each ◌++◌ ds Ss)) h in
    let q : Distinct d × Distinct S × ((a : ℕ) → In a d → ¬ In a S) = distinct-split d S p.0 in
    let ih : Apart ds Ss = split-joined ds Ss k p.1 in
    record {
      left = distinct_append d (flat ds) q.0 ih.left (λ a i j. p.2 a (in_left a d S j) (joined-left a ds Ss k i));
      right = distinct_append S (flat Ss) q.1 ih.right (λ a i j. p.2 a (in_right a d S j) (joined-right a ds Ss k i));
      off = λ a i j. ⊎_elim
          (λ s. ⊎_elim (λ t. q.2 a t s) (λ t. p.2 a (in_right a d S s) (joined-left a ds Ss k t)) (flat_in a d ds j))
          (λ s. ⊎_elim (λ t. p.2 a (in_left a d S t) (joined-right a ds Ss k s)) (λ t. ih.off a s t) (flat_in a d ds j))
          (flat_in a S Ss i);
    }

-- all axes of a mesh: 0, 1, .., n - 1
pub in-axes : (a n : ℕ) → In a (tab n (λ k. k)) → a < n
in-axes a zero i = absurd i
in-axes a (suc n) i = ⊎_elim (λ j. omega (arith, in-axes a n j)) (⊎_elim (λ e. omega arith) (λ j. absurd j)) (in-append a (tab n (λ k. k)) (n ∷ []) i)

pub axes-in : (a n : ℕ) → a < n → In a (tab n (λ k. k))
axes-in a zero h = absurd (omega arith)
axes-in a (suc n) h = go (ℕ_discrete a n) (axes-in a n)
  where
    go : Dec (a ≡ n) → (a < n → In a (tab n (λ k. k))) → In a (tab n (λ k. k) ++ n ∷ [])
    go (yes e) ih = in_right a (tab n (λ k. k)) (n ∷ []) (inl e)
    go (no d) ih = in_left a (tab n (λ k. k)) (n ∷ []) (ih (omega (arith, d)))

pub distinct-axes : (n : ℕ) → Distinct (tab n (λ k. k))
distinct-axes zero = tt
distinct-axes (suc n) =
    distinct_append (tab n (λ k. k)) (n ∷ []) (distinct-axes n) ((λ i. i), tt) (λ a i j. let l : a < n = in-axes a n j in ⊎_elim (λ e. omega arith) (λ k. absurd k) i)

-- ---- the entries that pass a test

module _ (p : ℕ → Bool) where
  pub keep-yes : (b : ℕ) (U : List ℕ) → T (p b) → keep p (b ∷ U) ≡ b ∷ keep p U
  unfolding keep
  keep-yes b U t = ap (λ (s : Bool). pick s (b ∷ keep p U) (keep p U)) (T→true (p b) t)

  pub keep-no : (b : ℕ) (U : List ℕ) → T (not (p b)) → keep p (b ∷ U) ≡ keep p U
  unfolding keep
  keep-no b U t = ap (λ (s : Bool). pick s (b ∷ keep p U) (keep p U)) (n_t→false (p b) (T_not (p b) t))

  pub in-keep : (c : ℕ) (U : List ℕ) → In c U → T (p c) → In c (keep p U)
  in-keep c [] i t = elim i [ ]
  in-keep c (b ∷ U) i t =
      ⊎_elim (λ y. rw (keep-yes b U y) (⊎_map (λ e. e) (λ j. in-keep c U j t) i))
      (λ n. rw (keep-no b U n) (⊎_elim (λ e. absurd (T_not (p b) n (subst (λ z. T (p z)) e t))) (λ j. in-keep c U j t) i)) (T? (p b))

  pub of-keep : (c : ℕ) (U : List ℕ) → In c (keep p U) → In c U × T (p c)
  of-keep c [] i = absurd (unfold keep in i)
  of-keep c (b ∷ U) i =
      ⊎_elim (λ y. go y (rw (keep-yes b U y) at i) (of-keep c U))
      (λ n. (inr (of-keep c U (rw (keep-no b U n) at i)).0, (of-keep c U (rw (keep-no b U n) at i)).1)) (T? (p b))
    where
      go : T (p b) → In c (b ∷ keep p U) → (In c (keep p U) → In c U × T (p c)) → In c (b ∷ U) × T (p c)
      go y (inl e) ih = (inl e, subst (λ z. T (p z)) (sym e) y)
      go y (inr j) ih = (inr (ih j).0, (ih j).1)

  pub distinct-keep : (U : List ℕ) → Distinct U → Distinct (keep p U)
  distinct-keep [] d = unfold keep in d
  distinct-keep (b ∷ U) d =
      ⊎_elim (λ y. rw (keep-yes b U y) ((λ i. d.0 (of-keep b U i).0), distinct-keep U d.1)) (λ n. rw (keep-no b U n) (distinct-keep U d.1)) (T? (p b))

  pub keep_all : (U : List ℕ) → ((c : ℕ) → In c U → T (p c)) → keep p U ≡ U
  keep_all [] h = unfold keep in refl
  keep_all (b ∷ U) h = keep-yes b U (h b (inl refl)) ∙ ap (λ (l : List ℕ). b ∷ l) (keep_all U (λ c i. h c (inr i)))

-- two tests that agree on a list keep the same of it
pub keep_same : (p q : ℕ → Bool) (U : List ℕ) → ((c : ℕ) → In c U → p c ≡ q c) → keep p U ≡ keep q U
unfolding keep
keep_same p q [] h = refl
keep_same p q (b ∷ U) h = ap₂ (λ (t : Bool) (l : List ℕ). pick t (b ∷ l) l) (h b (inl refl)) (keep_same p q U (λ c i. h c (inr i)))

pub keep-keep : (p q : ℕ → Bool) (U : List ℕ) → keep p (keep q U) ≡ keep (λ b. q b && p b) U
unfolding keep
keep-keep p q [] = refl
keep-keep p q (b ∷ U) = go (q b) (keep-keep p q U)
  where
    go : (t : Bool) → keep p (keep q U) ≡ keep (λ b. q b && p b) U
        → keep p (pick t (b ∷ keep q U) (keep q U)) ≡ pick (t && p b) (b ∷ keep (λ b. q b && p b) U) (keep (λ b. q b && p b) U)
    go true ih = ap (λ (l : List ℕ). pick (p b) (b ∷ l) l) ih
    go false ih = ih

-- what is left without some entries
pub in_without : (a : ℕ) (L U : List ℕ) → In a U → In a L ⊎ In a (without U L)
unfolding without
in_without a L U i = ⊎_map (λ t. mem-in a L t) (λ n. in-keep (λ b. not (mem b L)) a U i n) (T? (mem a L))

pub of-without : (a : ℕ) (L U : List ℕ) → In a (without U L) → In a U
unfolding without
of-without a L U i = (of-keep (λ b. not (mem b L)) a U i).0

pub not-in-without : (a : ℕ) (L U : List ℕ) → In a L → ¬ In a (without U L)
unfolding without
not-in-without a L U j i = not-mem a L (of-keep (λ b. not (mem b L)) a U i).1 j

pub distinct_without : (L U : List ℕ) → Distinct U → Distinct (without U L)
unfolding without
distinct_without L U d = distinct-keep (λ b. not (mem b L)) U d

pub without-none : (U : List ℕ) → without U [] ≡ U
unfolding without mem
without-none U = keep_all (λ b. not (mem b [])) U (λ c i. tt)

-- to leave out a, and then L, is to leave out both
pub without_more : (a : ℕ) (L U : List ℕ) → without U (a ∷ L) ≡ without (without U (a ∷ [])) L
unfolding without mem
without_more a L U =
    keep_same _ _ U (λ c i. go (eqb c a) (mem c L)) ∙ sym (keep-keep (λ b. not (mem b L)) (λ b. not (eqb b a || false)) U)
  where
    go : (t s : Bool) → not (t || s) ≡ (not (t || false) && not s)
    go true s = refl
    go false s = refl

-- leaving out one entry: at the front, and where it is not
pub without-same : (a : ℕ) (U : List ℕ) → without (a ∷ U) (a ∷ []) ≡ without U (a ∷ [])
unfolding without
without-same a U = keep-no (λ b. not (mem b (a ∷ []))) a U (not_T (not (mem a (a ∷ []))) (λ t. T_not (mem a (a ∷ [])) t (in_mem a (a ∷ []) (inl refl))))

pub without_other : (a b : ℕ) (U : List ℕ) → a ≢ b → without (b ∷ U) (a ∷ []) ≡ b ∷ without U (a ∷ [])
unfolding without
without_other a b U h = keep-yes (λ c. not (mem c (a ∷ []))) b U (mem-not b (a ∷ []) (⊎_elim (λ e. h (sym e)) (λ i. i)))

-- all of U are among those taken out
pub without_all : (L U : List ℕ) → ((a : ℕ) → In a U → In a L) → without U L ≡ []
without_all L U h = empty (without U L) (λ a i. not-in-without a L U (h a (of-without a L U i)) i)
  where
    empty : (M : List ℕ) → ((a : ℕ) → ¬ In a M) → M ≡ []
    empty [] n = refl
    empty (a ∷ M) n = absurd (n a (inl refl))

-- two lists take the same entries out of U
pub without-alike : (L K U : List ℕ) → ((a : ℕ) → In a U → In a L → In a K) → ((a : ℕ) → In a U → In a K → In a L) → without U L ≡ without U K
unfolding without
without-alike L K U f g = keep_same (λ a. not (mem a L)) (λ a. not (mem a K)) U (λ a u. ap not (go a u (T? (mem a L))))
  where
    go : (a : ℕ) → In a U → T (mem a L) ⊎ T (not (mem a L)) → mem a L ≡ mem a K
    go a u (inl t) = T→true (mem a L) t ∙ sym (T→true (mem a K) (in_mem a K (f a u (mem-in a L t))))
    go a u (inr t) = n_t→false (mem a L) (T_not (mem a L) t) ∙ sym (n_t→false (mem a K) (λ k. T_not (mem a L) t (in_mem a L (g a u (mem-in a K k)))))

pub without-absent : (L U : List ℕ) → ((a : ℕ) → In a U → ¬ In a L) → without U L ≡ U
unfolding without
without-absent L U off = keep_all (λ c. not (mem c L)) U (λ c i. mem-not c L (off c i))

-- ---- the numbers below n of a list, in increasing order

module _ (n : ℕ) (L : List ℕ) where
  pub of-ascending : (a : ℕ) → In a (ascending n L) → In a L
  unfolding ascending
  of-ascending a i = mem-in a L (of-keep (λ a. mem a L) a (tab n (λ a. a)) i).1

  pub in-ascending : (a : ℕ) → a < n → In a L → In a (ascending n L)
  unfolding ascending
  in-ascending a l i = in-keep (λ a. mem a L) a (tab n (λ a. a)) (axes-in a n l) (in_mem a L i)

  pub distinct-ascending : Distinct (ascending n L)
  unfolding ascending
  distinct-ascending = distinct-keep (λ a. mem a L) (tab n (λ a. a)) (distinct-axes n)

  -- where all are below n, they are the list's own
  pub without-ascending : (U : List ℕ) → ((a : ℕ) → In a L → a < n) → without U (ascending n L) ≡ without U L
  unfolding without
  without-ascending U below = keep_same _ _ U (λ c i. ap not (go c (T? (mem c L))))
    where
      go : (c : ℕ) → T (mem c L) ⊎ T (not (mem c L)) → mem c (ascending n L) ≡ mem c L
      go c (inl t) =
          let i : In c L = mem-in c L t in
          T→true (mem c (ascending n L)) (in_mem c (ascending n L) (in-ascending c (below c i) i)) ∙ sym (T→true (mem c L) t)
      go c (inr t) =
          n_t→false (mem c (ascending n L)) (λ m. not-mem c L t (of-ascending c (mem-in c (ascending n L) m)))
          ∙ sym (n_t→false (mem c L) (T_not (mem c L) t))

-- ---- distinct numbers below n are at most n

one_less : (a : ℕ) (L : List ℕ) → Distinct L → length L ≤ suc (length (without L (a ∷ [])))
one_less a [] d = omega arith
one_less a (b ∷ L) d = go (ℕ_discrete a b) (one_less a L d.1)
  where
    go : Dec (a ≡ b) → length L ≤ suc (length (without L (a ∷ []))) → length (b ∷ L) ≤ suc (length (without (b ∷ L) (a ∷ [])))
    go (yes e) ih =
        let s : without (b ∷ L) (b ∷ []) ≡ L =
        without-same b L ∙ without-absent (b ∷ []) L (λ c i j. ⊎_elim (λ p. d.0 (subst (λ z. In z L) p i)) (λ k. absurd k) j) in
        rw (e, s) (omega arith)
    go (no n) ih = rw (without_other a b L n) (omega arith)

pub few-distinct : (n : ℕ) (L : List ℕ) → Distinct L → ((a : ℕ) → In a L → a < n) → length L ≤ n
few-distinct zero [] d h = omega arith
few-distinct zero (a ∷ L) d h = absurd (omega (arith, h a (inl refl)))
few-distinct (suc n) L d h =
    let R : List ℕ = without L (n ∷ []) in
    let ih : length R ≤ n =
    few-distinct n R (distinct_without (n ∷ []) L d)
    (λ a i. let l : a < suc n = h a (of-without a (n ∷ []) L i) in
    let k : ¬ (a ≡ n) = λ e. not-in-without a (n ∷ []) L (inl e) i in
    omega arith) in
    omega (arith, one_less n L d)

-- ---- entries below sizes

pub below_length : {xs ns : List ℕ} → Below xs ns → length xs ≡ length ns
below_length none = refl
below_length (more l b) = ap suc (below_length b)

-- ---- entries and numbers

-- one turn of a loop that counts a list down
pub drop-before : {A : Type 0} (z : A) (l : List A) (i : ℕ) → 0 < i → i ≤ length l → drop (i - 1) l ≡ get_or l (i - 1) z ∷ drop i l
drop-before z l i h g =
    let e : suc (i - 1) ≡ i = omega arith in
    rw e at (drop-cons l (i - 1) z (omega arith))

-- an entry of a list is in it
pub at_in : (l : List ℕ) (i : ℕ) → i < length l → In (get_or l i 0) l
at_in [] i h = absurd (omega arith)
at_in (a ∷ l) zero h = inl refl
at_in (a ∷ l) (suc i) h = inr (at_in l i (omega arith))
