-- What ways reach, and that a further one is a way too.
use Rattle.std.proofs.Common.{arith, ◌≡◌, ◌≢◌, ◌∙◌, sym, ap, subst, refl, ℕ, ◌≤◌, ◌+◌, ◌==◌, nat_eq, Bool, true, false, ◌||◌, List, [], ◌∷◌, ◌++◌, length, All, AllPairs, Contains, eqb-true, eq-eqb, ne_eqb}
use Rattle.std.specs.Cmp.{nat_eq_equiv}
use Rattle.std.specs.List.{list_any, IsDistinct}
use Rattle.std.proofs.lemmas.Bool.{false≢true, or_from}
use Rattle.std.proofs.lemmas.List.{map_push, length-map}
use Rattle.std.proofs.lemmas.List.Elements.{All-contains, All-nil, All-cons, All-push, All-weaker}
use Rattle.std.proofs.lemmas.List.Folds.{Any-from_list_any, list_any-from_Any, list_any-append}
use Rattle.std.proofs.lemmas.List.Quantifiers.{Any-push, all_pairs_push}
use Rattle.std.proofs.lemmas.Map.Keys.{IsDistinct-push}
use Rattle.std.proofs.lemmas.Map.Steps.{length-le_from_distinct_below}
use Rattle.std.proofs.lemmas.Map.Views.{Contains-from_any}
use Rattle.csp_order.specs.Chains.{IsChain, IsApart, LeadsThrough}
use Rattle.csp_order.specs.Pairs.{list_limit, pair}
use Rattle.csp_order.specs.Ways.{is_reached, end_of, IsWay, ends, AreWays, IsClosed, GoesOn}
use Rattle.csp_order.specs.declared.pair.Pair.{Pair}
use Rattle.csp_order.specs.declared.way.Way.{Way}

-- where the pair goes on from the end of the way, what it leads to is reached
abbrev pub IsFollowed : List Way → Way → Pair → Type 0
IsFollowed ways way p = p.first ≡ way.end → is_reached ways p.second ≡ true

pub all_followed : (pairs : List Pair) (ways : List Way)
    → All (λ (way : Way). All (IsFollowed ways way) pairs) ways → IsClosed pairs ways
all_followed pairs ways each p among reached =
    let found = Any-from_list_any (λ (way : Way). p.first == way.end) ways reached in
    let followed : All (IsFollowed ways found.1) pairs =
    subst (λ (way : Way). All (IsFollowed ways way) pairs) found.3 (each found.0 found.1 found.2) in
    All-contains (IsFollowed ways found.1) pairs p followed among (eqb-true _ _ found.4)

-- Chains that grow at their end

chain_push : (pairs : List Pair) (first : ℕ) (steps : List ℕ) (next : ℕ) → IsChain pairs first steps
    → Contains pairs (pair (end_of first steps) next) → IsChain pairs first (steps ++ next ∷ [])
chain_push pairs first [] next chain leads = (leads, tt)
chain_push pairs first (s ∷ steps) next chain leads =
    (chain.0, chain_push pairs s steps next chain.1 leads)

pub end_push : (first : ℕ) (steps : List ℕ) (next : ℕ) → end_of first (steps ++ next ∷ []) ≡ next
end_push first [] next = refl
end_push first (s ∷ steps) next = end_push s steps next

-- no chain leads out of what is reached
stays : (pairs : List Pair) (ways : List Way) → IsClosed pairs ways → (first : ℕ) (steps : List ℕ)
    → is_reached ways first ≡ true → IsChain pairs first steps → is_reached ways (end_of first steps) ≡ true
stays pairs ways closed first [] reached chain = reached
stays pairs ways closed first (s ∷ steps) reached chain =
    stays pairs ways closed s steps (closed (pair first s) chain.0 reached) chain.1

pub apart : (pairs : List Pair) (ends : Pair) (ways : List Way) → is_reached ways ends.first ≡ true
    → is_reached ways ends.second ≡ false → IsClosed pairs ways → IsApart pairs ends
apart pairs ends ways begun unreached closed lists chain =
    false≢true (sym unreached ∙ ap (is_reached ways) (sym (end_push ends.first lists ends.second))
    ∙ stays pairs ways closed ends.first (lists ++ ends.second ∷ []) begun chain)

-- A list that isn't reached

module _ (pairs : List Pair) (first : ℕ) (ways : List Way) (way : Way) (next : ℕ)
    (are : AreWays pairs first ways) (goes : GoesOn pairs ways way next) where
  is_way : IsWay pairs first ways way
  is_way = All-contains (IsWay pairs first ways) ways way are.each goes.among

  further_chain : IsChain pairs first (way.steps.items ++ next ∷ [])
  further_chain =
      chain_push pairs first way.steps.items next is_way.chain
      (subst (λ (e : ℕ). Contains pairs (pair e next)) (sym is_way.ends) goes.leads)

  further_distinct : AllPairs (λ (a b : ℕ). a ≢ b) (first ∷ (way.steps.items ++ next ∷ []))
  further_distinct =
      all_pairs_push (λ (a b : ℕ). a ≢ b) (first ∷ way.steps.items) next is_way.distinct
      (λ k d within same. false≢true (sym goes.unreached ∙ ap (is_reached ways) (sym same)
      ∙ is_way.reached k d within))

pub arrives : (pairs : List Pair) (ends : Pair) (ways : List Way) (way : Way)
    → AreWays pairs ends.first ways → GoesOn pairs ways way ends.second → ¬ Contains pairs ends
    → LeadsThrough pairs ends way.steps.items
arrives pairs ends ways way are goes fresh = record {
  some = λ none. fresh (subst (λ (e : ℕ). Contains pairs (pair e ends.second))
      (sym (is_way pairs ends.first ways way ends.second are goes).ends ∙ ap (end_of ends.first) none)
      goes.leads);
  distinct = further_distinct pairs ends.first ways way ends.second are goes;
  chain = further_chain pairs ends.first ways way ends.second are goes;
}

-- Ways that grow in number

reached_longer : (ways more : List Way) (n : ℕ) → is_reached ways n ≡ true → is_reached (ways ++ more) n ≡ true
reached_longer ways more n reached =
    list_any-append (λ (way : Way). n == way.end) ways more
    ∙ ap (λ (b : Bool). b || is_reached more n) reached

pub unreached_longer : (ways : List Way) (new : Way) (n : ℕ) → is_reached ways n ≡ false → n ≢ new.end
    → is_reached (ways ++ new ∷ []) n ≡ false
unreached_longer ways new n unreached differ =
    list_any-append (λ (way : Way). n == way.end) ways (new ∷ [])
    ∙ or_from _ _ unreached (or_from _ _ (ne_eqb n new.end differ) refl)

reached_end : (ways : List Way) (new : Way) → is_reached (ways ++ new ∷ []) new.end ≡ true
reached_end ways new =
    list_any-from_Any (λ (way : Way). new.end == way.end) (ways ++ new ∷ [])
    (Any-push (λ (way : Way). (new.end == way.end) ≡ true) ways new (eq-eqb new.end new.end refl))

among_ends : (ways : List Way) (n : ℕ) → list_any (nat_eq n) (ends ways) ≡ is_reached ways n
among_ends [] n = refl
among_ends (way ∷ ways) n = ap (λ (b : Bool). (n == way.end) || b) (among_ends ways n)

way_longer : (pairs : List Pair) (first : ℕ) (ways more : List Way) (way : Way)
    → IsWay pairs first ways way → IsWay pairs first (ways ++ more) way
way_longer pairs first ways more way is = record {
  chain = is.chain;
  ends = is.ends;
  distinct = is.distinct;
  reached = All-weaker (λ step. is_reached ways step ≡ true) (λ step. is_reached (ways ++ more) step ≡ true)
      (λ step reached. reached_longer ways more step reached) (first ∷ way.steps.items) is.reached;
}

pub ways_more : (pairs : List Pair) (first : ℕ) (ways : List Way) (way new : Way) (next : ℕ)
    → AreWays pairs first ways → GoesOn pairs ways way next → next ≤ list_limit
    → new.steps.items ≡ way.steps.items ++ next ∷ [] → new.end ≡ next
    → AreWays pairs first (ways ++ new ∷ [])
ways_more pairs first ways way new next are goes few steps_are end_is =
    let more = ways ++ new ∷ [] in
    let old = is_way pairs first ways way next are goes in
    let at_end : is_reached more next ≡ true = ap (is_reached more) (sym end_is) ∙ reached_end ways new in
    let reached : All (λ step. is_reached more step ≡ true) (first ∷ (way.steps.items ++ next ∷ [])) =
    All-push (λ step. is_reached more step ≡ true) (first ∷ way.steps.items) next
    (way_longer pairs first ways (new ∷ []) way old).reached at_end in
    let one : IsWay pairs first more new = record {
      chain = subst (IsChain pairs first) (sym steps_are) (further_chain pairs first ways way next are goes);
      ends = ap (end_of first) steps_are ∙ end_push first way.steps.items next ∙ sym end_is;
      distinct = subst (λ (steps : List ℕ). AllPairs (λ (a b : ℕ). a ≢ b) (first ∷ steps)) (sym steps_are)
          (further_distinct pairs first ways way next are goes);
      reached = subst (λ (steps : List ℕ). All (λ step. is_reached more step ≡ true) (first ∷ steps))
          (sym steps_are) reached;
    } in record {
      each = All-push (IsWay pairs first more) ways new
          (All-weaker (IsWay pairs first ways) (IsWay pairs first more)
          (λ other is. way_longer pairs first ways (new ∷ []) other is) ways are.each) one;
      begun = reached_longer ways (new ∷ []) first are.begun;
      distinct = subst (IsDistinct nat_eq) (sym (map_push (λ (w : Way). w.end) ways new))
          (IsDistinct-push nat_eq_equiv (ends ways) new.end are.distinct
          (among_ends ways new.end ∙ ap (is_reached ways) end_is ∙ goes.unreached));
      few = subst (All (λ end. end ≤ list_limit)) (sym (map_push (λ (w : Way). w.end) ways new))
          (All-push (λ end. end ≤ list_limit) (ends ways) new.end are.few
          (subst (λ (e : ℕ). e ≤ list_limit) (sym end_is) few));
    }

none_distinct : IsDistinct nat_eq []
unfolding IsDistinct
none_distinct = tt

pub ways_begin : (pairs : List Pair) (first : ℕ) (way : Way) → first ≤ list_limit → way.steps.items ≡ []
    → way.end ≡ first → AreWays pairs first (way ∷ [])
ways_begin pairs first way few none end_is =
    let at_end : is_reached (way ∷ []) first ≡ true =
    ap (is_reached (way ∷ [])) (sym end_is) ∙ reached_end [] way in
    let distinct : AllPairs (λ (a b : ℕ). a ≢ b) (first ∷ []) = λ i j d above within. absurd (omega arith) in
    record {
      each = All-cons (IsWay pairs first (way ∷ [])) way [] (record {
        chain = subst (IsChain pairs first) (sym none) tt;
        ends = ap (end_of first) none ∙ sym end_is;
        distinct = subst (λ (steps : List ℕ). AllPairs (λ (a b : ℕ). a ≢ b) (first ∷ steps)) (sym none) distinct;
        reached = subst (λ (steps : List ℕ). All (λ step. is_reached (way ∷ []) step ≡ true) (first ∷ steps))
            (sym none) (All-cons (λ step. is_reached (way ∷ []) step ≡ true) first [] at_end
            (All-nil (λ step. is_reached (way ∷ []) step ≡ true)));
      }) (All-nil (IsWay pairs first (way ∷ [])));
      begun = at_end;
      distinct = IsDistinct-push nat_eq_equiv [] way.end none_distinct refl;
      few = All-cons (λ end. end ≤ list_limit) way.end [] (subst (λ (e : ℕ). e ≤ list_limit) (sym end_is) few)
          (All-nil (λ end. end ≤ list_limit));
    }

-- no more ways than numbers of lists, and 0
pub ways_few : (pairs : List Pair) (first : ℕ) (ways : List Way) → AreWays pairs first ways
    → length ways ≤ list_limit + 1
ways_few pairs first ways are =
    let bound : length (ends ways) ≤ list_limit + 1 =
    length-le_from_distinct_below (ends ways) (list_limit + 1) are.distinct
    (λ q found. let small : q ≤ list_limit = All-contains (λ end. end ≤ list_limit) (ends ways) q are.few
    (Contains-from_any eqb-true q (ends ways) found) in omega arith) in
    omega (arith, length-map ways (λ (w : Way). w.end))
