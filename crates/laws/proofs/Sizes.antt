-- Laws of shard sizes: what the tests of divisibility find (`cut-divisible`), and that the sizes that make up a whole are its shard sizes
-- (`cut-is`); lists joined and cut off (`cut-joined`, `cut-grown`); the words of a shard (`cut_product`). Assumes nothing.
use Prim.Native.Nat.{ℕ, zero, ◌+◌, ◌*◌, ◌/◌, ◌%◌, ◌<◌}
use mathlib.Core.Path.{◌≡◌, refl, sym, ap, ap₂, ◌∙◌, subst}
use mathlib.Core.List.{List, [], ◌∷◌, ◌++◌}
use native.Mathlib.Nat.{div-add-mod', mul_comm, mul-pos, mul-div_cancel}
use native.Mathlib.Omega.{arith}
use lib.ListN.{length, get_or}
use lib.Arith.{digits_mod}
use lib.Dec.{T, eqb, eqb→eq, lit<}
use Rattle.rules.specs.Lists.{each, flat, product}
use Rattle.rules.specs.Mesh.{span}
use Rattle.rules.specs.Sharding.{divisible, shard_sizes}
use Rattle.rules.specs.Collectives.{grown}
use Rattle.laws.proofs.Lists.{T_and, and_T}
use Rattle.laws.proofs.Positions.{span-append}
use Rattle.laws.proofs.Shapes.{Cut, cut, uncut}

module _ (mesh : List ℕ) where
  pub cut-divisible : (ns : List ℕ) (Ss : List (List ℕ)) → T (divisible mesh ns Ss) → Cut mesh Ss ns (shard_sizes mesh ns Ss)
  cut-divisible [] [] t = uncut
  cut-divisible [] (S ∷ Ss) t = absurd t
  cut-divisible (n ∷ ns) [] t = absurd t
  cut-divisible (n ∷ ns) (S ∷ Ss) t =
      let r : T (eqb (n % span mesh S) 0) × T (divisible mesh ns Ss) = T_and (eqb (n % span mesh S) 0) (divisible mesh ns Ss) t in
      let z : n % span mesh S ≡ 0 = eqb→eq (n % span mesh S) 0 r.0 in
      let e : n ≡ n / span mesh S * span mesh S = omega (arith, div-add-mod' n (span mesh S)) in
      cut e (cut-divisible ns Ss r.1)

  pub cut-joined : {ds Ss : List (List ℕ)} {sizes old new : List ℕ} → Cut mesh ds sizes old → Cut mesh Ss old new → Cut mesh (each ◌++◌ ds Ss) sizes new
  cut-joined uncut uncut = uncut
  cut-joined (cut {S = d} {whole = n} e c) (cut {S} {piece = p} e' c') =
      let h : n ≡ p * span mesh (d ++ S) = rw (e, e', span-append mesh d S) (omega arith) in
      cut h (cut-joined c c')

  pub cut-grown : (ds Gs : List (List ℕ)) {sizes old : List ℕ} → length ds ≡ length Gs → Cut mesh (each ◌++◌ ds Gs) sizes old
      → Cut mesh Gs (grown mesh Gs old) old × Cut mesh ds sizes (grown mesh Gs old)
  cut-grown [] [] e uncut = (uncut, uncut)
  cut-grown [] (G ∷ Gs) e c = absurd (omega arith)
  cut-grown (d ∷ ds) [] e c = absurd (omega arith)
  cut-grown (d ∷ ds) (G ∷ Gs) e (cut {whole = n} {piece = p} {wholes = ns} {pieces = ps} h c) =
      let r : Cut mesh Gs (grown mesh Gs ps) ps × Cut mesh ds ns (grown mesh Gs ps) = cut-grown ds Gs (omega arith) c in
      let g : n ≡ span mesh G * p * span mesh d = h ∙ ap (λ (z : ℕ). p * z) (span-append mesh d G) ∙ omega arith in
      (cut (mul_comm (span mesh G) p) r.0, cut g r.1)

  pub cut_product : {Ss : List (List ℕ)} {wholes pieces : List ℕ} → Cut mesh Ss wholes pieces → product wholes ≡ product pieces * span mesh (flat Ss)
  cut_product uncut = refl
  cut_product (cut {S} {Ss} {piece = p} {pieces = ps} e c) = rw (e, cut_product c, span-append mesh S (flat Ss)) (omega arith)

  module _ (pos : (a : ℕ) → zero < get_or mesh a 1) where
    pub span_pos : (L : List ℕ) → zero < span mesh L
    span_pos [] = lit< tt
    span_pos (a ∷ L) = mul-pos (pos a) (span_pos L)

    pub cut-is : {Ss : List (List ℕ)} {wholes pieces : List ℕ} → Cut mesh Ss wholes pieces → T (divisible mesh wholes Ss) × (pieces ≡ shard_sizes mesh wholes Ss)
    cut-is uncut = (tt, refl)
    cut-is (cut {S} {Ss} {whole} {piece} {wholes} e c) =
        let w : whole ≡ piece * span mesh S + 0 = omega arith in
        let z : whole % span mesh S ≡ 0 = ap (λ (n : ℕ). n % span mesh S) w ∙ digits_mod piece (span_pos S) in
        let q : piece ≡ whole / span mesh S = sym (ap (λ (n : ℕ). n / span mesh S) e ∙ mul-div_cancel piece (span_pos S)) in (
          and_T (eqb (whole % span mesh S) 0) (divisible mesh wholes Ss) (subst (λ n. T (eqb n 0)) (sym z) tt) (cut-is c).0,
          ap₂ (λ (n : ℕ) (l : List ℕ). n ∷ l) q (cut-is c).1,
        )
