-- One order of atoms. Those on one part of a check stand together, and those that an atom is around right
-- behind it.
use Rattle.std.specs.Prelude.{ℕ, List, [], ◌∷◌}
use Rattle.std.specs.Cmp.Lexicographic.{slice_cmp}
use Rattle.std.specs.Ordering.{nat_cmp}
use Rattle.std.specs.declared.cmp.Ordering.{Ordering}
use Rattle.csp_model.specs.Paths.{front_text}
use Rattle.csp_model.specs.declared.check.CheckPart.{CheckPart}
use Rattle.csp_model.specs.declared.check.CheckPart.TheVariants as part
use Rattle.csp_model.specs.declared.source.Algorithm.TheVariants.{Sha256, Sha384, Sha512}
use Rattle.csp_facts.specs.Atoms.{part_of}
use Rattle.csp_facts.specs.Order.{key}
use Rattle.csp_facts.specs.declared.atom.Atom.{Atom}
use Rattle.csp_facts.specs.declared.atom.Atom.TheVariants.{HostIs, HostUnder, HostDomain, PathIs, PathUnder}
use Rattle.csp_branch.specs.Hosts.{host_key}

abbrev pub text_cmp : List ℕ → List ℕ → Ordering
text_cmp = slice_cmp nat_cmp

-- the place of a part among the parts
abbrev pub part_number : CheckPart → ℕ
part_number part.Host = 0
part_number part.Path = 1
part_number part.Port = 2
part_number part.PlainScheme = 3
part_number part.Nonce = 4
part_number part.Integrity = 5
part_number (part.Digest Sha256) = 6
part_number (part.Digest Sha384) = 7
part_number (part.Digest Sha512) = 8

abbrev pub number_of : Atom → ℕ
number_of atom = part_number (part_of atom)

-- the text with a "/" at its end, which begins with that of each front of the path; then a number for what is
-- said of the path; and the pieces, so that no two keys are one
abbrev pub path_key : List (List ℕ) → ℕ → List (List ℕ)
path_key pieces number = front_text pieces ∷ (number ∷ []) ∷ pieces

-- hosts by their texts from the end, paths by their texts, a path before the front of its own pieces; the
-- others as atoms are in order
abbrev pub content_key : Atom → List (List ℕ)
content_key (HostIs host) = host_key (HostIs host) ∷ []
content_key (HostUnder suffix) = host_key (HostUnder suffix) ∷ []
content_key HostDomain = host_key HostDomain ∷ []
content_key (PathIs pieces) = path_key pieces 0
content_key (PathUnder pieces) = path_key pieces 1
content_key atom = key atom

abbrev pub content_cmp : Atom → Atom → Ordering
content_cmp one other = slice_cmp text_cmp (content_key one) (content_key other)

-- first the part
abbrev pub name_key : Atom → List (List ℕ)
name_key atom = (number_of atom ∷ []) ∷ content_key atom

abbrev pub name_cmp : Atom → Atom → Ordering
name_cmp one other = slice_cmp text_cmp (name_key one) (name_key other)
