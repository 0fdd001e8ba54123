-- Words of private contracts, which stand here since contracts cite only specs/: what a line's text is read
-- as. That this is what the text spells is proved of them.
use Rattle.std.specs.Prelude.{◌≡◌, ℕ, ◌<◌, ◌^◌, ◌==◌, ◌&&◌, nat_lt, if◌then◌else◌, List, [], ◌∷◌, Option, Some, None, option_map, option_and_then, codes, decimal, ⊤, Result, Ok}
use Rattle.std.specs.Result.{result_ok}
use Rattle.std.specs.Str.{bytes_eq}
use Rattle.hex.specs.Hex.{decode_sized}
use Rattle.csp_model.specs.Ascii.{code}
use Rattle.csp_model.specs.Grammar.{decimal_value, algorithm_named, is_base64_value}
use Rattle.csp_model.specs.Policies.{policy_limit}
use Rattle.csp_model.specs.Schemes.{scheme_named}
use Rattle.csp_model.specs.Validity.{is_domain, is_lower_scheme}
use Rattle.csp_model.specs.declared.check.Digest.{Digest}
use Rattle.csp_model.specs.declared.check.Digest.TheVariants as one
use Rattle.csp_model.specs.declared.source.Algorithm.{Algorithm}
use Rattle.csp_model.specs.declared.source.Algorithm.TheVariants.{Sha256, Sha384, Sha512}
use Rattle.csp_model.specs.declared.source.Hash.{Hash}
use Rattle.csp_model.specs.declared.url.Scheme.{Scheme}
use Rattle.csp_model.specs.declared.url.Host.{Host}
use Rattle.csp_model.specs.declared.url.Host.TheVariants.{Domain}
use Rattle.csp_model.specs.declared.url.Url.{Url}
use Rattle.csp_model.specs.declared.url.Url.TheVariants as url
use Rattle.csp_url.specs.declared.error.PartsError.{PartsError}
use Rattle.csp_url.specs.Reading.{host_of, found_path}
use Rattle.csp_facts.specs.declared.atom.Atom.{Atom}
use Rattle.csp_facts.specs.declared.atom.Atom.TheVariants.{HostIs, HostUnder, HostDomain, PortIs, PathIs, PathUnder, SchemeIs, NonceIs, IntegrityHas, IntegrityOutside, DigestIs}
use Rattle.csp_facts.specs.Numbers.{shape_count}
use Rattle.csp_proof.specs.Spelling.{atom_text, line_text}
use Rattle.csp_proof.specs.WellFormed.{IsValidNode}
use Rattle.csp_proof.specs.declared.line.ProofLine.{ProofLine}
use Rattle.csp_proof.specs.declared.line.ProofLine.TheVariants as line
use Rattle.csp_proof.specs.declared.proof.Format.{Format}
use Rattle.csp_proof.specs.declared.proof.Format.TheVariants.{One, Two}
use Rattle.csp_proof.specs.declared.proof.Node.TheVariants as node

-- Words and numbers

abbrev pub with_first : ℕ → Option (List ℕ × List ℕ) → Option (List ℕ × List ℕ)
with_first b None = None
with_first b (Some parts) = Some (b ∷ parts.0, parts.1)

-- the word before the first space, and what stands behind that
abbrev pub cut : List ℕ → Option (List ℕ × List ℕ)
cut [] = None
cut (b ∷ text) = if b == code " " then Some ([], text) else with_first b (cut text)

-- the number below the limit that decimal digits without leading zeros spell
unfoldable pub number_below : ℕ → List ℕ → Option ℕ
number_below limit text =
    if nat_lt (decimal_value text) limit && bytes_eq (decimal (decimal_value text)) text
    then Some (decimal_value text) else None

-- Atoms

-- the host and the path of a URL, where there is one
abbrev pub parts_from : Result Url PartsError → Option (Host × List (List ℕ))
parts_from (Ok (url.Hosted scheme host port path)) = Some (host, path)
parts_from result = None

-- the scheme of a URL without a host, where there is one
abbrev pub scheme_from : Result Url PartsError → Option (List ℕ)
scheme_from (Ok (url.Plain scheme)) = Some scheme
scheme_from result = None

abbrev pub domain_from : Option Host → Option (List ℕ)
domain_from (Some (Domain text)) = Some text
domain_from host = None

abbrev pub domain_text : List ℕ → Option (List ℕ)
domain_text text = if is_domain text then Some text else None

abbrev pub base64_text : List ℕ → Option (List ℕ)
base64_text text = if is_base64_value text then Some text else None

abbrev pub unless_known : List ℕ → Option Scheme → Option (List ℕ)
unless_known text None = Some text
unless_known text (Some scheme) = None

-- a scheme in lower case that isn't one of those with hosts
abbrev pub plain_scheme : List ℕ → Option (List ℕ)
plain_scheme text = if is_lower_scheme text then unless_known text (scheme_named text) else None

abbrev pub hash_of : Option Algorithm → Option (List ℕ) → Option Hash
hash_of (Some algorithm) (Some value) = Some (record { algorithm = algorithm; value = value })
hash_of algorithm value = None

abbrev pub hash_in : Option (List ℕ × List ℕ) → Option Hash
hash_in None = None
hash_in (Some parts) = hash_of (algorithm_named parts.0) (base64_text parts.1)

abbrev pub digest_by : Algorithm → List ℕ → Option Digest
digest_by Sha256 digits = option_map one.Sha256 (result_ok (decode_sized digits 32))
digest_by Sha384 digits = option_map one.Sha384 (result_ok (decode_sized digits 48))
digest_by Sha512 digits = option_map one.Sha512 (result_ok (decode_sized digits 64))

abbrev pub digest_in : Option (List ℕ × List ℕ) → Option Digest
digest_in None = None
digest_in (Some parts) = option_and_then (λ algorithm. digest_by algorithm parts.1) (algorithm_named parts.0)

-- an atom of one word
abbrev pub bare_atom : List ℕ → Option Atom
bare_atom text =
    if bytes_eq text (codes "host-domain") then Some HostDomain
    else if bytes_eq text (codes "integrity-outside") then Some IntegrityOutside
    else None

-- an atom of a word and what stands behind it
unfoldable pub atom_about : List ℕ → List ℕ → Option Atom
atom_about word value =
    if bytes_eq word (codes "host-is") then option_map HostIs (host_of value)
    else if bytes_eq word (codes "host-under") then option_map HostUnder (domain_text value)
    else if bytes_eq word (codes "port-is") then option_map PortIs (number_below 65536 value)
    else if bytes_eq word (codes "path-is") then option_map PathIs (found_path value)
    else if bytes_eq word (codes "path-under") then option_map PathUnder (found_path value)
    else if bytes_eq word (codes "scheme-is") then option_map SchemeIs (plain_scheme value)
    else if bytes_eq word (codes "nonce-is") then option_map NonceIs (base64_text value)
    else if bytes_eq word (codes "integrity-has") then option_map IntegrityHas (hash_in (cut value))
    else if bytes_eq word (codes "digest-is") then option_map DigestIs (digest_in (cut value))
    else None

abbrev pub meant_by : Option (List ℕ × List ℕ) → List ℕ → Option Atom
meant_by None text = bare_atom text
meant_by (Some parts) text = atom_about parts.0 parts.1

-- the atom that a text means, in whatever spelling
abbrev pub meant_atom : List ℕ → Option Atom
meant_atom text = meant_by (cut text) text

abbrev pub where_spelled : List ℕ → Option Atom → Option Atom
where_spelled text None = None
where_spelled text (Some atom) = if bytes_eq (atom_text atom) text then Some atom else None

-- the atom that a text spells
abbrev pub atom_of : List ℕ → Option Atom
atom_of text = where_spelled text (meant_atom text)

-- Lines

abbrev pub format_named : List ℕ → Option Format
format_named text =
    if bytes_eq text (codes "1") then Some One else if bytes_eq text (codes "2") then Some Two else None

abbrev pub tree_line : Option ℕ → Option ℕ → Option ProofLine
tree_line (Some shape) (Some policy) = Some (line.Tree shape policy)
tree_line shape policy = None

abbrev pub tree_of : Option (List ℕ × List ℕ) → Option ProofLine
tree_of None = None
tree_of (Some parts) = tree_line (number_below shape_count parts.0) (number_below policy_limit parts.1)

-- a line of one word
abbrev pub bare_line : List ℕ → Option ProofLine
bare_line text =
    if bytes_eq text (codes "met") then Some (line.Node node.Met)
    else if bytes_eq text (codes "end") then Some line.End
    else None

-- a line of a word and what stands behind it
unfoldable pub line_about : List ℕ → List ℕ → Option ProofLine
line_about word value =
    if bytes_eq word (codes "split") then option_map (λ a. line.Node (node.Split a)) (atom_of value)
    else if bytes_eq word (codes "blocked")
    then option_map (λ n. line.Node (node.Blocked n)) (number_below policy_limit value)
    else if bytes_eq word (codes "tree") then tree_of (cut value)
    else if bytes_eq word (codes "same") then option_map line.Same (number_below (2 ^ 32) value)
    else if bytes_eq word (codes "csp-proof") then option_map line.Head (format_named value)
    else None

abbrev pub line_by : Option (List ℕ × List ℕ) → List ℕ → Option ProofLine
line_by None text = bare_line text
line_by (Some parts) text = line_about parts.0 parts.1

abbrev pub line_of : List ℕ → Option ProofLine
line_of text = line_by (cut text) text

-- What a line spells

-- a line that the format can spell
abbrev pub IsValidLine : ProofLine → Type 0
IsValidLine (line.Head format) = ⊤
IsValidLine (line.Tree shape policy) = (shape < shape_count) × (policy < policy_limit)
IsValidLine (line.Same number) = number < 2 ^ 32
IsValidLine (line.Node step) = IsValidNode step
IsValidLine line.End = ⊤

-- the text spells this line, or none
abbrev pub IsReadAs : List ℕ → Option ProofLine → Type 0
IsReadAs text None = (l : ProofLine) → IsValidLine l → text ≡ line_text l → ⊥
IsReadAs text (Some l) = IsValidLine l × (text ≡ line_text l)
