-- Two routes meet: the hypotheses of Ask 14's statements are had by four pairs of files, and by every table on every start (`routes_met`). Assumes nothing.
use Prim.Native.Nat.{ℕ, zero, suc, ◌^◌, ◌<◌}
use mathlib.Core.Path.{◌≡◌, refl, sym, ap, ◌∙◌}
use mathlib.Core.Logic.{inl}
use mathlib.Core.List.{List, [], ◌∷◌, ◌++◌, map}
use native.Mathlib.Omega.{arith}
use lib.ListN.{length, get_or, replicate, take, length-append, length-replicate}
use lib.Seq.{take_at, length-take-le}
use lib.Dec.{lit<}
use Rattle.rules.specs.Lists.{Below, none, more}
use Rattle.rules.specs.Mesh.{number, members}
use Rattle.rules.specs.Sharding.{first_indexes}
use Rattle.rules.specs.Spread.{add_words, held_by, from}
use Rattle.rules.specs.PlanFile.{judge_by, announced, announced_shape}
use Rattle.rules.specs.Factor.{factor_after}
use Rattle.rules.specs.Calls.{shards_after, run_of}
use Rattle.rules.specs.Ledger.{file_in, file_of}
use Rattle.rules.specs.WorkedFactors.{one_word, slice_second, gather_second}
use Rattle.rules.specs.WorkedRepeats.{times, reduce, gather}
use Rattle.rules.specs.WorkedRoutes.{scatter}
use Rattle.laws.specs.Demands.{start_words}
use Rattle.laws.specs.Meetings.{
  Meetable,
  doubling,
  Meeting,
  at_once,
  in_two,
  owed_file,
  MeetingOwed,
  stays,
  comes_back,
  apart_file,
  MeetingApart,
  cabled_whole,
  whole_file,
  six_eight,
  MeetingStarts,
  RoutesMet,
}
use Rattle.laws.proofs.Whole.{spreadable}
use Rattle.laws.proofs.Routes.{routes_meet, routes_meet_unreduced, table_decides}

meetable : Meetable
meetable file p q e start table words len extra l =
    let w = spreadable file p e table words len l in
    let front : List ℕ = take (start_words p) w.0 in
    let long : length front ≡ start_words p = length-take-le (start_words p) w.0 (omega (arith, w.1, l)) in (
      w.0,
      front ++ replicate extra 0,
      w.1,
      length-append front (replicate extra 0) ∙ omega (arith, long, length-replicate {A = ℕ} extra 0),
      record {
        one_start = start;
        words = w.2;
        one_front = sym (take_at front (replicate extra 0) (start_words p) long);
        table = table;
        faithful = w.3;
      },
    )

meeting : Meeting
unfolding file_in file_of judge_by announced announced_shape factor_after shards_after held_by members add_words
meeting = record {
  plan_32 = refl;
  plan_33 = refl;
  one_end = record { one_mesh = refl; one_order = refl; one_size = refl; one_end = refl; one_factor = refl };
  none_unreduced = refl;
  one_spread = record {
    one_start = refl;
    words = words;
    one_front = refl;
    table = λ i. 7;
    faithful = record { same = λ x y i bx by bi g. at bx bi ∙ sym (at by bi); sums = λ x i bx bi. at bx bi };
  };
}
  where
    words : (j : ℕ) → get_or (7 ∷ 7 ∷ 9 ∷ []) j 0 < 2 ^ 32
    words zero = lit< tt
    words (suc zero) = lit< tt
    words (suc (suc zero)) = lit< tt
    words (suc (suc (suc j))) = lit< tt

    at : {x i : List ℕ} → Below x (2 ∷ []) → Below i (1 ∷ []) → ◌≡◌ {A = ℕ} (held_by {W = ℕ} 0 (0 ∷ 1 ∷ []) (2 ∷ []) (1 ∷ []) (7 ∷ 7 ∷ 9 ∷ []) x i) 7
    at (more {x = zero} l none) (more {x = zero} k none) = refl
    at (more {x = zero} l none) (more {x = suc j} k none) = absurd (omega (arith, k))
    at (more {x = suc zero} l none) (more {x = zero} k none) = refl
    at (more {x = suc zero} l none) (more {x = suc j} k none) = absurd (omega (arith, k))
    at (more {x = suc (suc a)} l none) bi = absurd (omega (arith, l))

meeting-owed : MeetingOwed
unfolding file_in judge_by announced announced_shape factor_after shards_after held_by members add_words
meeting-owed = record {
  plan_1 = refl;
  plan_2 = refl;
  one_end = record { one_mesh = refl; one_order = refl; one_size = refl; one_end = refl; one_factor = refl };
  none_unreduced = refl;
  one_spread = record {
    one_start = refl;
    words = words;
    one_front = refl;
    table = λ i. get_or (6 ∷ 8 ∷ []) (number (2 ∷ []) i) 0;
    faithful = record { same = λ x y i bx by bi g. alike bx by (g 0 (inl refl)) i; sums = λ x i bx bi. sums bx bi };
  };
}
  where
    words : (j : ℕ) → get_or (5 ∷ 6 ∷ 1 ∷ 2 ∷ []) j 0 < 2 ^ 32
    words zero = lit< tt
    words (suc zero) = lit< tt
    words (suc (suc zero)) = lit< tt
    words (suc (suc (suc zero))) = lit< tt
    words (suc (suc (suc (suc j)))) = lit< tt

    state : List ℕ → List ℕ → ℕ
    state x i = held_by {W = ℕ} 0 (1 ∷ 0 ∷ []) (2 ∷ []) (2 ∷ []) (5 ∷ 6 ∷ 1 ∷ 2 ∷ []) x i

    alike : {x y : List ℕ} → Below x (2 ∷ []) → Below y (2 ∷ []) → ◌≡◌ {A = ℕ} (get_or x 0 0) (get_or y 0 0) → (i : List ℕ) → state x i ≡ state y i
    alike (more {x = zero} l none) (more {x = zero} k none) e i = refl
    alike (more {x = zero} l none) (more {x = suc b} k none) e i = absurd (omega (arith, e))
    alike (more {x = suc a} l none) (more {x = zero} k none) e i = absurd (omega (arith, e))
    alike (more {x = suc a} l none) (more {x = suc b} k none) e i = ap (λ (c : ℕ). state (c ∷ []) i) e

    sums : {x i : List ℕ} → Below x (2 ∷ []) → Below i (2 ∷ [])
        → ◌≡◌ {A = ℕ} (add_words (map (λ y. state y i) (members (2 ∷ []) (0 ∷ []) x))) (get_or (6 ∷ 8 ∷ []) (number (2 ∷ []) (from (first_indexes (2 ∷ []) ([] ∷ []) (2 ∷ []) x) i)) 0)
    sums (more {x = zero} l none) (more {x = zero} k none) = refl
    sums (more {x = zero} l none) (more {x = suc zero} k none) = refl
    sums (more {x = zero} l none) (more {x = suc (suc j)} k none) = absurd (omega (arith, k))
    sums (more {x = suc zero} l none) (more {x = zero} k none) = refl
    sums (more {x = suc zero} l none) (more {x = suc zero} k none) = refl
    sums (more {x = suc zero} l none) (more {x = suc (suc j)} k none) = absurd (omega (arith, k))
    sums (more {x = suc (suc a)} l none) bi = absurd (omega (arith, l))

meeting-apart : MeetingApart
unfolding file_in file_of judge_by announced announced_shape factor_after shards_after held_by members add_words
meeting-apart = record {
  plan_1 = refl;
  plan_2 = refl;
  one_end = record { one_mesh = refl; one_order = refl; one_size = refl; one_end = refl; one_factor = refl };
  unreduced_is = refl;
  one_spread = record {
    one_start = refl;
    words = words;
    one_front = refl;
    table = λ i. 7;
    faithful = record { same = λ x y i bx by bi g. alike bx by bi (g 0 (inl refl)); sums = λ x i bx bi. sums bx bi };
  };
}
  where
    words : (j : ℕ) → get_or (3 ∷ 4 ∷ []) j 0 < 2 ^ 32
    words zero = lit< tt
    words (suc zero) = lit< tt
    words (suc (suc j)) = lit< tt

    state : List ℕ → List ℕ → ℕ
    state x i = held_by {W = ℕ} 0 (0 ∷ 1 ∷ []) (2 ∷ 1 ∷ []) (1 ∷ []) (3 ∷ 4 ∷ []) x i

    alike : {x y i : List ℕ} → Below x (2 ∷ 1 ∷ []) → Below y (2 ∷ 1 ∷ []) → Below i (1 ∷ []) → ◌≡◌ {A = ℕ} (get_or x 0 0) (get_or y 0 0) → state x i ≡ state y i
    alike (more {x = a} l (more {x = suc c} m none)) by bi e = absurd (omega (arith, m))
    alike (more {x = a} l (more {x = zero} m none)) (more {x = b} k (more {x = suc d} n none)) bi e = absurd (omega (arith, n))
    alike {i = i} (more {x = a} l (more {x = zero} m none)) (more {x = b} k (more {x = zero} n none)) bi e = ap (λ (c : ℕ). state (c ∷ 0 ∷ []) i) e

    sums : {x i : List ℕ} → Below x (2 ∷ 1 ∷ []) → Below i (1 ∷ []) → ◌≡◌ {A = ℕ} (add_words (map (λ y. state y i) (members (2 ∷ 1 ∷ []) (0 ∷ []) x))) 7
    sums (more {x = a} l (more {x = suc c} m none)) bi = absurd (omega (arith, m))
    sums (more {x = a} l (more {x = zero} m none)) (more {x = suc j} k none) = absurd (omega (arith, k))
    sums (more {x = zero} l (more {x = zero} m none)) (more {x = zero} k none) = refl
    sums (more {x = suc zero} l (more {x = zero} m none)) (more {x = zero} k none) = refl
    sums (more {x = suc (suc a)} l (more {x = zero} m none)) (more {x = zero} k none) = absurd (omega (arith, l))

meeting-starts : MeetingStarts
unfolding file_in judge_by announced announced_shape factor_after shards_after held_by members add_words
meeting-starts = record {
  plan = refl;
  one_end = record { one_mesh = refl; one_order = refl; one_size = refl; one_end = refl; one_factor = refl };
  words = words;
  spread = record { same = λ x y i bx by bi g. at bx bi ∙ sym (at by bi); sums = λ x i bx bi. at bx bi ∙ start bx bi };
}
  where
    words : (j : ℕ) → get_or (6 ∷ 8 ∷ 6 ∷ 8 ∷ []) j 0 < 2 ^ 32
    words zero = lit< tt
    words (suc zero) = lit< tt
    words (suc (suc zero)) = lit< tt
    words (suc (suc (suc zero))) = lit< tt
    words (suc (suc (suc (suc j)))) = lit< tt

    at : {x i : List ℕ} → Below x (2 ∷ []) → Below i (2 ∷ []) → ◌≡◌ {A = ℕ} (held_by {W = ℕ} 0 (1 ∷ 0 ∷ []) (2 ∷ []) (2 ∷ []) (6 ∷ 8 ∷ 6 ∷ 8 ∷ []) x i) (six_eight i)
    at (more {x = zero} l none) (more {x = zero} k none) = refl
    at (more {x = zero} l none) (more {x = suc zero} k none) = refl
    at (more {x = zero} l none) (more {x = suc (suc j)} k none) = absurd (omega (arith, k))
    at (more {x = suc zero} l none) (more {x = zero} k none) = refl
    at (more {x = suc zero} l none) (more {x = suc zero} k none) = refl
    at (more {x = suc zero} l none) (more {x = suc (suc j)} k none) = absurd (omega (arith, k))
    at (more {x = suc (suc a)} l none) bi = absurd (omega (arith, l))

    start : {x i : List ℕ} → Below x (2 ∷ []) → Below i (2 ∷ []) → ◌≡◌ {A = ℕ} (six_eight i) (six_eight (from (first_indexes (2 ∷ []) ([] ∷ []) (2 ∷ []) x) i))
    start (more l none) (more {x = zero} k none) = refl
    start (more l none) (more {x = suc zero} k none) = refl
    start (more l none) (more {x = suc (suc j)} k none) = absurd (omega (arith, k))

met : take 2 (run_of (one_word (times 32 (reduce ∷ []) ∷ [])) (7 ∷ 7 ∷ 9 ∷ []) (9 ∷ 9 ∷ [])).work
    ≡ take 2 (run_of (one_word (times 33 (reduce ∷ []) ∷ [])) (7 ∷ 7 ∷ 9 ∷ 9 ∷ []) (9 ∷ 9 ∷ 9 ∷ [])).work
unfolding file_in file_of run_of announced announced_shape
met = (routes_meet (doubling 32) (doubling 33) (7 ∷ 7 ∷ 9 ∷ []) (7 ∷ 7 ∷ 9 ∷ 9 ∷ []) meeting.one_end meeting.none_unreduced meeting.one_spread
    (one_word (times 32 (reduce ∷ []) ∷ [])) (one_word (times 33 (reduce ∷ []) ∷ [])) meeting.plan_32 meeting.plan_33
    (9 ∷ 9 ∷ []) (9 ∷ 9 ∷ 9 ∷ []) refl refl).fronts

met-owed : take 4 (run_of (owed_file (reduce ∷ [])) (5 ∷ 6 ∷ 1 ∷ 2 ∷ []) (9 ∷ 9 ∷ 9 ∷ 9 ∷ [])).work
    ≡ take 4 (run_of (owed_file (scatter ∷ gather ∷ [])) (5 ∷ 6 ∷ 1 ∷ 2 ∷ 9 ∷ []) (9 ∷ 9 ∷ 9 ∷ 9 ∷ [])).work
unfolding file_in run_of announced announced_shape
met-owed = (routes_meet at_once in_two (5 ∷ 6 ∷ 1 ∷ 2 ∷ []) (5 ∷ 6 ∷ 1 ∷ 2 ∷ 9 ∷ []) meeting-owed.one_end meeting-owed.none_unreduced meeting-owed.one_spread
    (owed_file (reduce ∷ [])) (owed_file (scatter ∷ gather ∷ [])) meeting-owed.plan_1 meeting-owed.plan_2
    (9 ∷ 9 ∷ 9 ∷ 9 ∷ []) (9 ∷ 9 ∷ 9 ∷ 9 ∷ []) refl refl).fronts

met-apart : take 2 (run_of (apart_file []) (3 ∷ 4 ∷ []) (9 ∷ 9 ∷ [])).work
    ≡ take 2 (run_of (apart_file (slice_second ∷ gather_second ∷ [])) (3 ∷ 4 ∷ []) (9 ∷ 9 ∷ [])).work
unfolding file_in file_of run_of announced announced_shape
met-apart = (routes_meet_unreduced stays comes_back (3 ∷ 4 ∷ []) (3 ∷ 4 ∷ []) meeting-apart.one_end meeting-apart.one_spread
    (apart_file []) (apart_file (slice_second ∷ gather_second ∷ [])) meeting-apart.plan_1 meeting-apart.plan_2
    (9 ∷ 9 ∷ []) (9 ∷ 9 ∷ []) refl refl).fronts

met-starts : (run_of (owed_file (reduce ∷ [])) (5 ∷ 6 ∷ 1 ∷ 2 ∷ []) (9 ∷ 9 ∷ 9 ∷ 9 ∷ [])).work ≡ (run_of whole_file (6 ∷ 8 ∷ 6 ∷ 8 ∷ []) (9 ∷ 9 ∷ 9 ∷ 9 ∷ [])).work
unfolding file_in run_of announced announced_shape meeting-owed
met-starts = (table_decides at_once cabled_whole (5 ∷ 6 ∷ 1 ∷ 2 ∷ []) (6 ∷ 8 ∷ 6 ∷ 8 ∷ []) meeting-starts.one_end meeting-owed.none_unreduced
    meeting-owed.one_spread.words meeting-starts.words meeting-owed.one_spread.table meeting-owed.one_spread.faithful meeting-starts.spread
    (owed_file (reduce ∷ [])) whole_file meeting-owed.plan_1 meeting-starts.plan
    (9 ∷ 9 ∷ 9 ∷ 9 ∷ []) (9 ∷ 9 ∷ 9 ∷ 9 ∷ []) refl refl).buffers refl

pub routes_met : RoutesMet
routes_met = record {
  meetable = meetable;
  doublings = meeting;
  doublings_leave = met;
  sums = meeting-owed;
  sums_leave = met-owed;
  parts = meeting-apart;
  parts_leave = met-apart;
  starts = meeting-starts;
  starts_leave = met-starts;
}
