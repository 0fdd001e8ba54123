-- Open atoms: a split by one of them leaves fewer, so that a search ends.
use Rattle.std.proofs.Common.{◌≡◌, ◌≢◌, ℕ, zero, suc, ◌+◌, ◌<◌, ◌≤◌, Bool, true, false, refl, List, [], ◌∷◌, ◌++◌, length, Option, Some, None, arith}
use Rattle.csp_facts.specs.Follows.{follows, decided, or_else}
use Rattle.csp_facts.specs.declared.atom.Atom.{Atom}
use Rattle.csp_facts.specs.declared.atom.Literal.{Literal}
use Rattle.csp_facts.proofs.Own.{own}
use Rattle.csp_branch.specs.Groups.{atom_in}
use Rattle.csp_branch.specs.Walks.{with}
use Rattle.csp_branch.proofs.Telling.{path_more}
use Rattle.csp_proof.specs.Accepts.{literal}
use Rattle.csp_search.specs.Branches.{is_open, open_atoms}

fewer : (x y : Option Bool) → is_open (or_else x y) ≤ is_open x
fewer (Some b) y = omega arith
fewer None (Some b) = omega arith
fewer None None = omega arith

fewer_at : (ls : List Literal) (l : Literal) (a : Atom) → is_open (decided (ls ++ l ∷ []) a) ≤ is_open (decided ls a)
fewer_at ls l a = rw (path_more ls l a) (fewer (decided ls a) (follows l a))

open_less : (ls : List Literal) (l : Literal) (atoms : List Atom) → open_atoms (ls ++ l ∷ []) atoms ≤ open_atoms ls atoms
open_less ls l [] = omega arith
open_less ls l (a ∷ atoms) = omega (arith, fewer_at ls l a, open_less ls l atoms)

-- what is known stays known
kept : (x y : Option Bool) → x ≢ None → or_else x y ≢ None
kept (Some b) y known = known
kept None y known = absurd (known refl)

pub still_known : (ls : List Literal) (l : Literal) (a : Atom) → decided ls a ≢ None → decided (ls ++ l ∷ []) a ≢ None
still_known ls l a known = rw (path_more ls l a) (kept (decided ls a) (follows l a) known)

-- the literal decides its own atom
own_known : (x : Option Bool) (b : Bool) → or_else x (Some b) ≢ None
own_known (Some c) b = λ none. cc
own_known None b = λ none. cc

pub taken_known : (ls : List Literal) (a : Atom) (sign : Bool) → decided (with ls a sign) a ≢ None
taken_known ls a sign = rw (path_more ls (literal a sign) a, own (literal a sign)) (own_known (decided ls a) sign)

decides_own : (ls : List Literal) (a : Atom) (sign : Bool) → decided ls a ≡ None → is_open (decided (with ls a sign) a) + 1 ≤ is_open (decided ls a)
decides_own ls a sign e = rw (path_more ls (literal a sign) a, e, own (literal a sign)) (omega arith)

first_one : (ls : List Literal) (a : Atom) (atoms : List Atom) (sign : Bool) → decided ls a ≡ None → open_atoms (with ls a sign) (a ∷ atoms) < open_atoms ls (a ∷ atoms)
first_one ls a atoms sign e = omega (arith, decides_own ls a sign e, open_less ls (literal a sign) atoms)

-- a split by an open atom leaves fewer open
pub open_fewer : (ls : List Literal) (names : List Atom) (name : ℕ) (sign : Bool) → name < length names → decided ls (atom_in names name) ≡ None
    → open_atoms (with ls (atom_in names name) sign) names < open_atoms ls names
open_fewer ls [] name sign there e = absurd (omega arith)
open_fewer ls (b ∷ names) zero sign there e = first_one ls b names sign e
open_fewer ls (b ∷ names) (suc name) sign there e =
    omega (arith, fewer_at ls (literal (atom_in names name) sign) b, open_fewer ls names name sign (omega arith) e)

pub open_all : (atoms : List Atom) → open_atoms [] atoms ≡ length atoms
open_all [] = refl
open_all (a ∷ atoms) = omega (arith, open_all atoms)

-- how many nodes there may be where so many atoms are open
pub cost : ℕ → ℕ
cost zero = 1
cost (suc n) = cost n + cost n + 1

cost_pos : (n : ℕ) → 0 < cost n
unfolding cost
cost_pos zero = omega arith
cost_pos (suc n) = omega (arith, cost_pos n)

cost_mono : (m n : ℕ) → m ≤ n → cost m ≤ cost n
unfolding cost
cost_mono zero n h = cost_pos n
cost_mono (suc m) zero h = absurd (omega arith)
cost_mono (suc m) (suc n) h = omega (arith, cost_mono m n (omega arith))

both_cost : (m u v : ℕ) → u < m → v < m → cost u + cost v < cost m
unfolding cost
both_cost zero u v h k = absurd (omega arith)
both_cost (suc m) u v h k = omega (arith, cost_mono u m (omega arith), cost_mono v m (omega arith))

-- the work that these branches are
abbrev pub work : List Atom → List (List Literal) → ℕ
work names [] = 0
work names (ls ∷ branches) = cost (open_atoms ls names) + work names branches

pub less_leaf : (names : List Atom) (ls : List Literal) (branches : List (List Literal)) → work names branches < work names (ls ∷ branches)
less_leaf names ls branches = omega (arith, cost_pos (open_atoms ls names))

pub less_split : (names : List Atom) (ls : List Literal) (branches : List (List Literal)) (name : ℕ) → name < length names → decided ls (atom_in names name) ≡ None
    → work names (with ls (atom_in names name) true ∷ with ls (atom_in names name) false ∷ branches) < work names (ls ∷ branches)
less_split names ls branches name there e =
    let a = atom_in names name in
    omega (arith, both_cost (open_atoms ls names) (open_atoms (with ls a true) names) (open_atoms (with ls a false) names) (open_fewer ls names name true there e) (open_fewer ls names name false there e))
