-- How a proof is written: a line for each thing that it says, ended by a line feed, with one space between
-- each two words of a line.
use Rattle.std.specs.Prelude.{ℕ, List, [], ◌∷◌, ◌++◌, map, codes, decimal}
use Rattle.std.specs.List.{flat_map, join_with_byte}
use Rattle.csp_model.specs.Ascii.{code}
use Rattle.csp_facts.specs.Spelling.{spelled}
use Rattle.csp_facts.specs.declared.atom.Atom.{Atom}
use Rattle.csp_proof.specs.declared.line.ProofLine.{ProofLine}
use Rattle.csp_proof.specs.declared.line.ProofLine.TheVariants as line
use Rattle.csp_proof.specs.declared.proof.Node.{Node}
use Rattle.csp_proof.specs.declared.proof.Node.TheVariants as node
use Rattle.csp_proof.specs.declared.proof.Format.{Format}
use Rattle.csp_proof.specs.declared.proof.Format.TheVariants.{One, Two}
use Rattle.csp_proof.specs.declared.proof.Body.{Body}
use Rattle.csp_proof.specs.declared.proof.Body.TheVariants as body
use Rattle.csp_proof.specs.declared.proof.Tree.{Tree}
use Rattle.csp_proof.specs.declared.proof.Proof.{Proof}

abbrev pub format_text : Format → List ℕ
format_text One = codes "1"
format_text Two = codes "2"

-- the words of an atom
abbrev pub atom_text : Atom → List ℕ
atom_text atom = join_with_byte (code " ") (spelled atom)

abbrev pub node_words : Node → List (List ℕ)
node_words (node.Split atom) = codes "split" ∷ spelled atom
node_words (node.Blocked policy) = codes "blocked" ∷ decimal policy ∷ []
node_words node.Met = codes "met" ∷ []

-- the words of a line; a number is in decimal digits, without leading zeros
abbrev pub line_words : ProofLine → List (List ℕ)
line_words (line.Head format) = codes "csp-proof" ∷ format_text format ∷ []
line_words (line.Tree shape policy) = codes "tree" ∷ decimal shape ∷ decimal policy ∷ []
line_words (line.Same number) = codes "same" ∷ decimal number ∷ []
line_words (line.Node step) = node_words step
line_words line.End = codes "end" ∷ []

abbrev pub line_text : ProofLine → List ℕ
line_text l = join_with_byte (code " ") (line_words l)

abbrev pub body_lines : Body → List ProofLine
body_lines (body.Nodes nodes) = map line.Node nodes
body_lines (body.Same number) = line.Same number ∷ []

-- a tree's own line, and those of its nodes in preorder, or the one that says which nodes it shares
abbrev pub tree_lines : Tree → List ProofLine
tree_lines tree = line.Tree tree.shape tree.policy ∷ body_lines tree.body

-- the format, the trees and the end
abbrev pub proof_lines : Proof → List ProofLine
proof_lines proof = line.Head proof.format ∷ flat_map tree_lines proof.trees ++ line.End ∷ []

abbrev pub lines_text : List ProofLine → List ℕ
lines_text lines = flat_map (λ l. line_text l ++ codes "\n") lines

abbrev pub proof_text : Proof → List ℕ
proof_text proof = lines_text (proof_lines proof)
