-- A fact on hosts is around another where its key is a front of the other's.
use Rattle.std.proofs.Common.{◌≡◌, ◌∙◌, refl, sym, ap, ℕ, ◌<◌, Bool, true, false, List, [], ◌∷◌, ◌++◌, arith, All, reverse}
use Rattle.std.specs.Prelude.{is_some}
use Rattle.std.specs.Str.{bytes_eq}
use Rattle.std.proofs.lemmas.Bool.{and_parts}
use Rattle.std.proofs.lemmas.Bool.Decides.{nat_tests}
use Rattle.std.proofs.lemmas.List.{append-nil, reverse-append, reverse-reverse}
use Rattle.std.proofs.lemmas.List.Elements.{All-head, All-tail, All-weaker}
use Rattle.std.proofs.lemmas.List.Sums.{AllPass-from_list_all}
use Rattle.std.specs.List.{list_all}
use Rattle.std.proofs.lemmas.Slice.Eq.{bytes_eq-Decides}
use Rattle.csp_model.specs.DecideEnds.{is_subdomain}
use Rattle.csp_model.specs.declared.url.Host.TheVariants.{Domain, Address}
use Rattle.csp_model.proofs.EndLaws.{subdomain_Decides}
use Rattle.csp_model.specs.Ascii.{is_nonempty}
use Rattle.csp_facts.specs.Spelling.{is_visible}
use Rattle.csp_facts.proofs.SpelledHosts.{host_word, domain_word}
use Rattle.csp_facts.proofs.SpelledWords.{IsWord}
use Rattle.csp_facts.specs.Follows.{lies_within, false_where}
use Rattle.csp_facts.specs.declared.atom.Atom.{Atom}
use Rattle.csp_facts.specs.declared.atom.Atom.TheVariants.{HostIs, HostUnder, HostDomain}
use Rattle.csp_facts.proofs.TableTests.{lies_within_decides}
use Rattle.csp_branch.specs.Around.{is_around}
use Rattle.csp_branch.specs.Hosts.{host_key, IsHostAtom}
use Rattle.csp_branch.specs.Prefix.{IsFrontOf}

-- Ends and fronts

abbrev IsEndOf : List ℕ → List ℕ → Type 0
IsEndOf end list = (front : List ℕ) × (list ≡ front ++ end)

front_of_reverse : (n : ℕ) (end list : List ℕ) → IsEndOf end list → IsFrontOf (n ∷ reverse end) (n ∷ reverse list)
front_of_reverse n end list (front, e) = (reverse front, ap (λ l. n ∷ l) (ap reverse e ∙ reverse-append front end))

end_of_reverse : (n : ℕ) (end list : List ℕ) → IsFrontOf (n ∷ reverse end) (n ∷ reverse list) → IsEndOf end list
end_of_reverse n end list (rest, e) =
    let same : reverse list ≡ reverse end ++ rest = cc in
    (reverse rest, sym (reverse-reverse list) ∙ ap reverse same ∙ reverse-append (reverse end) rest ∙ ap (λ l. reverse rest ++ l) (reverse-reverse end))

-- Texts without a mark

abbrev HasNone : List ℕ → Type 0
HasNone text = All (λ (b : ℕ). 0 < b) text

none_behind : (text front end : List ℕ) → HasNone text → text ≡ front ++ 0 ∷ end → ⊥
none_behind [] [] end h e = cc
none_behind [] (b ∷ front) end h e = cc
none_behind (b ∷ text) [] end h e = let first : b ≡ 0 = cc in let here : 0 < b = All-head (λ (n : ℕ). 0 < n) b text h in omega arith
none_behind (b ∷ text) (c ∷ front) end h e = none_behind text front end (All-tail (λ (n : ℕ). 0 < n) b text h) cc

visible_above : (c : ℕ) → is_visible c ≡ true → 0 < c
visible_above c e = grind (arith, nat_tests)

word_has_none : (text : List ℕ) → IsWord text → HasNone text
word_has_none text word =
    All-weaker (λ (c : ℕ). is_visible c ≡ true) (λ (c : ℕ). 0 < c) visible_above text
    (AllPass-from_list_all is_visible text (and_parts (is_nonempty text) (list_all is_visible text) word).1)

-- Tests

shown : (test : Bool) → is_some (false_where test) ≡ true → test ≡ true
shown true e = refl
shown false e = cc

show : (test : Bool) → test ≡ true → is_some (false_where test) ≡ true
show test e = rw e refl

same_front : (x y : List ℕ) → x ≡ y → IsFrontOf x y
same_front x y e = ([], sym e ∙ sym (append-nil x))

-- Around are fronts

pub around_is_front : (outer inner : Atom) → IsHostAtom outer → IsHostAtom inner → is_around outer inner ≡ true → IsFrontOf (host_key outer) (host_key inner)
around_is_front (HostIs (Domain d)) (HostIs (Domain e)) one other h =
    same_front _ _ (ap (λ text. 1 ∷ reverse (0 ∷ text)) ((bytes_eq-Decides d e).0 (shown (bytes_eq d e) h)))
around_is_front (HostIs (Address d)) (HostIs (Address e)) one other h =
    same_front _ _ (ap (λ text. 0 ∷ reverse (0 ∷ text)) ((bytes_eq-Decides d e).0 (shown (bytes_eq d e) h)))
around_is_front (HostUnder s) (HostUnder t) one other h = front_of_reverse 1 (46 ∷ s) (46 ∷ t) ((lies_within_decides t s).0 (shown (lies_within t s) h))
around_is_front (HostUnder s) (HostIs (Domain d)) one other h =
    let under = (subdomain_Decides d s).0 (shown (is_subdomain d s) h) in
    front_of_reverse 1 (46 ∷ s) (0 ∷ d) (0 ∷ under.0, ap (λ l. 0 ∷ l) under.1)
around_is_front HostDomain (HostIs (Domain d)) one other h = (reverse (0 ∷ d), refl)
around_is_front HostDomain (HostUnder s) one other h = (reverse (46 ∷ s), refl)
around_is_front HostDomain HostDomain one other h = ([], refl)
around_is_front HostDomain (HostIs (Address a)) one other h = cc
around_is_front (HostUnder s) (HostIs (Address a)) one other h = cc
around_is_front (HostIs (Domain d)) inner one other h = cc
around_is_front (HostIs (Address d)) inner one other h = cc
around_is_front (HostUnder s) inner one other h = cc
around_is_front HostDomain inner one other h = cc
around_is_front outer inner one other h = let e = one.part in cc

-- Fronts are around

marked_once : (text other : List ℕ) → HasNone other → IsEndOf (0 ∷ text) (0 ∷ other) → text ≡ other
marked_once text other none ([], e) = cc
marked_once text other none (c ∷ front, e) = absurd (none_behind other front text none cc)

not_marked : (n : ℕ) (text other : List ℕ) → 0 < n → HasNone other → IsEndOf (0 ∷ text) (n ∷ other) → ⊥
not_marked n text other pos none ([], e) = let first : n ≡ 0 = cc in omega arith
not_marked n text other pos none (c ∷ front, e) = none_behind other front text none cc

nothing_ends : (c : ℕ) (text : List ℕ) → IsEndOf (c ∷ text) [] → ⊥
nothing_ends c text ([], e) = cc
nothing_ends c text (d ∷ front, e) = cc

below_mark : (n : ℕ) (end text : List ℕ) → 0 < n → IsEndOf (n ∷ end) (0 ∷ text) → IsEndOf (n ∷ end) text
below_mark n end text pos ([], e) = let first : 0 ≡ n = cc in absurd (omega arith)
below_mark n end text pos (c ∷ front, e) = (front, cc)

leads_apart : {P : Type 0} (front list : List ℕ) (m n : ℕ) → m < n → IsFrontOf (n ∷ front) (m ∷ list) → P
leads_apart front list m n below (rest, e) = let first : m ≡ n = cc in absurd (omega arith)

leads_apart_too : {P : Type 0} (front list : List ℕ) (m n : ℕ) → n < m → IsFrontOf (n ∷ front) (m ∷ list) → P
leads_apart_too front list m n below (rest, e) = let first : m ≡ n = cc in absurd (omega arith)

pub front_is_around : (outer inner : Atom) → IsHostAtom outer → IsHostAtom inner → IsFrontOf (host_key outer) (host_key inner) → is_around outer inner ≡ true
front_is_around (HostIs (Domain d)) (HostIs (Domain e)) one other h =
    show (bytes_eq d e) ((bytes_eq-Decides d e).1 (marked_once d e (word_has_none e (domain_word e other.valid)) (end_of_reverse 1 (0 ∷ d) (0 ∷ e) h)))
front_is_around (HostIs (Address d)) (HostIs (Address e)) one other h =
    show (bytes_eq d e) ((bytes_eq-Decides d e).1 (marked_once d e (word_has_none e (host_word (Address e) other.valid)) (end_of_reverse 0 (0 ∷ d) (0 ∷ e) h)))
front_is_around (HostIs (Domain d)) (HostUnder t) one other h =
    absurd (not_marked 46 d t (omega arith) (word_has_none t (domain_word t other.valid)) (end_of_reverse 1 (0 ∷ d) (46 ∷ t) h))
front_is_around (HostIs (Domain d)) HostDomain one other h = absurd (nothing_ends 0 d (end_of_reverse 1 (0 ∷ d) [] h))
front_is_around (HostUnder s) (HostIs (Domain d)) one other h =
    show (is_subdomain d s) ((subdomain_Decides d s).1 (below_mark 46 s d (omega arith) (end_of_reverse 1 (46 ∷ s) (0 ∷ d) h)))
front_is_around (HostUnder s) (HostUnder t) one other h = show (lies_within t s) ((lies_within_decides t s).1 (end_of_reverse 1 (46 ∷ s) (46 ∷ t) h))
front_is_around (HostUnder s) HostDomain one other h = absurd (nothing_ends 46 s (end_of_reverse 1 (46 ∷ s) [] h))
front_is_around HostDomain (HostIs (Domain d)) one other h = refl
front_is_around HostDomain (HostUnder s) one other h = refl
front_is_around HostDomain HostDomain one other h = refl
front_is_around (HostIs (Domain d)) (HostIs (Address e)) one other h = leads_apart _ _ 0 1 (omega arith) h
front_is_around (HostUnder s) (HostIs (Address e)) one other h = leads_apart _ _ 0 1 (omega arith) h
front_is_around HostDomain (HostIs (Address e)) one other h = leads_apart [] (reverse (0 ∷ e)) 0 1 (omega arith) h
front_is_around (HostIs (Address e)) (HostIs (Domain d)) one other h = leads_apart_too _ _ 1 0 (omega arith) h
front_is_around (HostIs (Address e)) (HostUnder s) one other h = leads_apart_too _ _ 1 0 (omega arith) h
front_is_around (HostIs (Address e)) HostDomain one other h = leads_apart_too _ _ 1 0 (omega arith) h
front_is_around (HostIs host) inner one other h = let e = other.part in cc
front_is_around (HostUnder s) inner one other h = let e = other.part in cc
front_is_around HostDomain inner one other h = let e = other.part in cc
front_is_around outer inner one other h = let e = one.part in cc
