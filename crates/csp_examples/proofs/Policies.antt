-- Header blocks and their policies.
use Rattle.std.proofs.Common.{◌≡◌, ℕ, List, [], ◌∷◌, ◌++◌, Option, map, length, Some, None, refl}
use Rattle.std.specs.Prelude.{codes}
use Rattle.csp_model.specs.Ascii.{words}
use Rattle.csp_model.specs.Policies.{directives_of, first_bad, policies, lines_of, token_count, longest_text, policy_text}
use Rattle.csp_examples.proofs.OnLiterals.{policies_on_literals}
use Rattle.csp_examples.proofs.Values.{own}
use Rattle.csp_model.specs.declared.policy.Directive.{Directive}
use Rattle.csp_model.specs.declared.policy.Disposition.{Disposition}
use Rattle.csp_model.specs.declared.policy.Disposition.TheVariants.{Enforce, Report}
use Rattle.csp_model.specs.declared.policy.Policy.{Policy}

abbrev names_of : List Directive → List (List ℕ)
names_of ds = map (λ (d : Directive). d.name) ds

abbrev tokens_of : List Directive → List (List (List ℕ))
tokens_of ds = map (λ (d : Directive). d.tokens) ds

abbrev dispositions_of : List Policy → List Disposition
dispositions_of ps = map (λ (p : Policy). p.disposition) ps

-- Directives

pub words_stand_between_white_space : words (codes "\t img-src  a\n") ≡ codes "img-src" ∷ codes "a" ∷ []
words_stand_between_white_space = refl

pub the_first_of_a_name_counts : tokens_of (directives_of (codes "img-src a; IMG-SRC b;; font-src"))
    ≡ (codes "a" ∷ []) ∷ [] ∷ []
unfolding policies_on_literals
the_first_of_a_name_counts = refl

pub names : map (λ value. names_of (directives_of value)) (
    -- they are in lower case
    codes "IMG-src a"
    -- a directive with a byte outside ASCII is left out
    ∷ codes "img-src é; font-src"
    -- an unknown one is kept
    ∷ codes "block-all-mixed-content" ∷ [])
    ≡ (codes "img-src" ∷ []) ∷ (codes "font-src" ∷ []) ∷ (codes "block-all-mixed-content" ∷ []) ∷ []
unfolding policies_on_literals
names = refl

-- Lines

pub one_carriage_return_is_left_out : lines_of (codes "a: b\r\r\nc") ≡ codes "a: b\r" ∷ codes "c" ∷ []
one_carriage_return_is_left_out = refl

abbrev blocks : List (List ℕ × Option ℕ)
blocks =
    -- a line without a colon is bad
    (codes "Server: x\nno colon\n", Some 2)
    -- a status line keeps its number, and stands first
    ∷ (codes "HTTP/1.1 200 OK\nA: b\n bad: line\n", Some 3)
    ∷ (codes "\nHTTP/1.1 200 OK\n", Some 2)
    -- empty lines are skipped
    ∷ (codes "\r\n\nA:\n", None)
    -- a control in a value, and an empty name
    ∷ (codes "A: b\rc\n", Some 1)
    ∷ (codes ": a\n", Some 1)
    ∷ []

pub first_bad_lines : map (λ (b : List ℕ × Option ℕ). first_bad b.0) blocks
    ≡ map (λ (b : List ℕ × Option ℕ). b.1) blocks
unfolding policies_on_literals
first_bad_lines = refl

-- Policies

pub a_comma_parts_policies :
    length (policies (codes "Content-Security-Policy: img-src a, font-src b\r\n") own) ≡ 2
unfolding policies_on_literals
a_comma_parts_policies = refl

pub a_policy_without_directives_is_left_out :
    length (policies (codes "Content-Security-Policy: ;, ,font-src b\n") own) ≡ 1
unfolding policies_on_literals
a_policy_without_directives_is_left_out = refl

pub names_of_headers_are_of_either_case :
    dispositions_of (policies (codes "content-security-policy-REPORT-only: img-src a\n"
    ++ codes "X: y\nCONTENT-SECURITY-POLICY: img-src a") own)
    ≡ Report ∷ Enforce ∷ []
unfolding policies_on_literals
names_of_headers_are_of_either_case = refl

pub a_meta_element_loses_three_directives : map (λ (p : Policy). names_of p.directives)
    (policies (codes "Meta-Content-Security-Policy: report-uri /r; sandbox; "
    ++ codes "img-src a; frame-ancestors b\n") own)
    ≡ (codes "img-src" ∷ []) ∷ []
unfolding policies_on_literals
a_meta_element_loses_three_directives = refl

pub a_meta_element_with_nothing_left : policies (codes "Meta-Content-Security-Policy: sandbox\n") own ≡ []
unfolding policies_on_literals
a_meta_element_with_nothing_left = refl

pub tokens_are_counted_where_they_are_kept :
    token_count (policies (codes "Content-Security-Policy: img-src a b; img-src c, font-src d\n") own) ≡ 3
unfolding policies_on_literals
tokens_are_counted_where_they_are_kept = refl

pub the_longest_name_or_token :
    longest_text (policies (codes "Content-Security-Policy: img-src a.example\n") own) ≡ 9
unfolding policies_on_literals
the_longest_name_or_token = refl

pub a_policy_is_printed :
    map policy_text (policies (codes "Content-Security-Policy: IMG-SRC  A ;script-src\n") own)
    ≡ codes "img-src A; script-src" ∷ []
unfolding policies_on_literals
a_policy_is_printed = refl
