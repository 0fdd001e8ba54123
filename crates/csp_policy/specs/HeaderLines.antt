-- Policies as lines of a header block, and which policies a line can say.
use Rattle.std.specs.Prelude.{◌≡◌, ℕ, ◌<◌, ◌==◌, nat_lt, Bool, true, not, ◌&&◌, ◌||◌, if◌then◌else◌, List, ◌∷◌, ◌++◌, length, codes, All}
use Rattle.std.specs.Char.{is_ascii_control, is_ascii_whitespace}
use Rattle.std.specs.List.{flat_map}
use Rattle.csp_model.specs.Ascii.{code, lower}
use Rattle.csp_model.specs.Policies.{IsReadablePolicy, is_for_meta, policy_text}
use Rattle.csp_model.specs.Verdict.{is_enforce}
use Rattle.csp_policy.specs.Types.{Directive, Policy, Origin}
use Rattle.csp_model.specs.declared.policy.Disposition.TheVariants.{Enforce}

-- the name of the header that delivers such a policy
abbrev pub header_name : Policy → List ℕ
header_name p =
    if p.meta then codes "Meta-Content-Security-Policy"
    else if is_enforce p.disposition then codes "Content-Security-Policy"
    else codes "Content-Security-Policy-Report-Only"

abbrev pub header_line : Policy → List ℕ
header_line p = header_name p ++ (codes ": " ++ (policy_text p ++ codes "\n"))

abbrev pub header_lines : List Policy → List ℕ
header_lines ps = flat_map header_line ps

-- a byte of a name or a token: ASCII, neither a control nor whitespace, and no semicolon. A header's value is
-- cut at commas, and the content of a meta element isn't.
abbrev pub is_word_char : Bool → ℕ → Bool
is_word_char meta c =
    nat_lt c 128 && (not (is_ascii_whitespace c) && (not (is_ascii_control c) && (not (c == code ";")
    && (meta || not (c == code ",")))))

abbrev pub IsWord : Bool → List ℕ → Type 0
IsWord meta text = (0 < length text) × All (λ c. is_word_char meta c ≡ true) text

-- the directive's name is in lower case, and it and each token is a word
pub record IsPrintableDirective (meta : Bool) (d : Directive) : Type 0 where
  pub lower_case : lower d.name ≡ d.name
  pub words : All (IsWord meta) (d.name ∷ d.tokens)

-- a line of a block of the origin can say the policy
pub record IsPrintable (origin : Origin) (p : Policy) : Type 0 where
  pub readable : IsReadablePolicy p
  pub of_origin : p.origin ≡ origin
  pub directives : All (IsPrintableDirective p.meta) p.directives
  pub enforced : p.meta ≡ true → p.disposition ≡ Enforce
  pub for_meta : p.meta ≡ true → All (λ (d : Directive). is_for_meta d ≡ true) p.directives
