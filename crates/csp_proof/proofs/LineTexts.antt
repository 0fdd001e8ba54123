-- The text of a line that splits is its word, a space and the atom.
use Rattle.std.proofs.Common.{◌≡◌, ◌∙◌, sym, ap, refl, List, [], ◌∷◌, ◌++◌, map, append_assoc, ℕ}
use Rattle.std.specs.Prelude.{codes, decimal}
use Rattle.std.specs.List.{flat_map, join_with_byte}
use Rattle.csp_facts.specs.declared.atom.Atom.{Atom}
use Rattle.csp_facts.specs.declared.atom.Atom.TheVariants.{HostIs, HostUnder, HostDomain, PortIs, PathIs, PathUnder, SchemeIs, NonceIs, IntegrityHas, IntegrityOutside, DigestIs}
use Rattle.std.proofs.lemmas.List.Concat.{flat_map-append}
use Rattle.csp_proof.specs.Spelling.{atom_text, body_lines, line_text, lines_text, tree_lines, proof_text}
use Rattle.csp_proof.specs.declared.line.ProofLine.{ProofLine}
use Rattle.csp_proof.specs.declared.proof.Tree.{Tree}
use Rattle.csp_proof.specs.declared.proof.Body.TheVariants as body
use Rattle.csp_proof.specs.declared.proof.Proof.{Proof}
use Rattle.csp_proof.specs.declared.line.ProofLine.TheVariants as line
use Rattle.csp_proof.specs.declared.proof.Node.{Node}
use Rattle.csp_proof.specs.declared.proof.Node.TheVariants as node

pub split_text : (atom : Atom) → line_text (line.Node (node.Split atom)) ≡ codes "split " ++ atom_text atom
split_text (HostIs host) = refl
split_text (HostUnder suffix) = refl
split_text HostDomain = refl
split_text (PortIs n) = refl
split_text (PathIs pieces) = refl
split_text (PathUnder pieces) = refl
split_text (SchemeIs scheme) = refl
split_text (NonceIs value) = refl
split_text (IntegrityHas hash) = refl
split_text IntegrityOutside = refl
split_text (DigestIs digest) = refl

pub nodes_text : (nodes : List Node) → lines_text (map line.Node nodes) ≡ flat_map (λ node. line_text (line.Node node) ++ codes "\n") nodes
nodes_text [] = refl
nodes_text (first ∷ nodes) = ap (λ t. (line_text (line.Node first) ++ codes "\n") ++ t) (nodes_text nodes)

pub tree_pushed : (tree : Tree) (nodes : List Node) (shape policy old first second third : List ℕ) (slice : List Node)
    → tree.body ≡ body.Nodes nodes → shape ≡ decimal tree.shape → policy ≡ decimal tree.policy → slice ≡ nodes
    → first ≡ old ++ join_with_byte 32 (codes "tree" ∷ shape ∷ policy ∷ []) → second ≡ first ++ codes "\n"
    → third ≡ second ++ flat_map (λ node. line_text (line.Node node) ++ codes "\n") slice → third ≡ old ++ lines_text (tree_lines tree)
tree_pushed tree nodes shape policy old first second third slice is shaped numbered same a b c =
    let text = λ (s : List ℕ) (p : List ℕ). join_with_byte 32 (codes "tree" ∷ s ∷ p ∷ []) ++ codes "\n" in
    let head : text shape policy ≡ text (decimal tree.shape) (decimal tree.policy) = ap (λ s. text s policy) shaped ∙ ap (text (decimal tree.shape)) numbered in
    let below : flat_map (λ node. line_text (line.Node node) ++ codes "\n") slice ≡ lines_text (body_lines tree.body)
    = ap (flat_map (λ node. line_text (line.Node node) ++ codes "\n")) same ∙ sym (nodes_text nodes) ∙ ap (λ b. lines_text (body_lines b)) (sym is) in
    let named = join_with_byte 32 (codes "tree" ∷ shape ∷ policy ∷ []) in
    let rest = flat_map (λ (node : Node). line_text (line.Node node) ++ codes "\n") slice in
    c ∙ ap (λ t. t ++ rest) (b ∙ ap (λ t. t ++ codes "\n") a ∙ append_assoc old named (codes "\n")) ∙ append_assoc old (text shape policy) rest
    ∙ ap (λ t. old ++ (t ++ rest)) head ∙ ap (λ t. old ++ (text (decimal tree.shape) (decimal tree.policy) ++ t)) below

pub trees_text : (trees : List Tree) → lines_text (flat_map tree_lines trees) ≡ flat_map (λ tree. lines_text (tree_lines tree)) trees
trees_text [] = refl
trees_text (first ∷ trees) =
    flat_map-append (λ (l : ProofLine). line_text l ++ codes "\n") (tree_lines first) (flat_map tree_lines trees) ∙ ap (λ t. lines_text (tree_lines first) ++ t) (trees_text trees)

pub text_of_proof : (proof : Proof)
    → ((line_text (line.Head proof.format) ++ codes "\n") ++ flat_map (λ tree. lines_text (tree_lines tree)) proof.trees) ++ codes "end\n" ≡ proof_text proof
text_of_proof proof =
    let head = line_text (line.Head proof.format) ++ codes "\n" in
    let ends = flat_map-append (λ (l : ProofLine). line_text l ++ codes "\n") (flat_map tree_lines proof.trees) (line.End ∷ []) in
    append_assoc head _ (codes "end\n") ∙ ap (λ t. head ++ t) (sym (ends ∙ ap (λ t. t ++ codes "end\n") (trees_text proof.trees)))
