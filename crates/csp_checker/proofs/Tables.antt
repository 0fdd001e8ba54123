-- What the answers of a table tell of a node is what the definition tells of it.
use Rattle.std.proofs.Common.{arith, refl, ◌≡◌, ◌∙◌, sym, ap, subst, ℕ, ◌<◌, zero, suc, Bool, true, false, ◌&&◌, List, [], ◌∷◌, length, map, get_or, All}
use Rattle.std.specs.Prelude.{Option, Some, None, MatchOption, IfSome, IsSome, IsTrue, slice_get}
use Rattle.std.specs.List.{list_all}
use Rattle.std.specs.Option.{option_and_then, option_map}
use Rattle.std.proofs.lemmas.Bool.{and_parts}
use Rattle.std.proofs.lemmas.List.Elements.{All-nil, All-cons}
use Rattle.std.proofs.lemmas.Option.{slice_get_within, slice_get-get_or, slice_get-map, option_and_then_some, same_Some}
use Rattle.csp_model.specs.Verdict.{is_enforce}
use Rattle.csp_model.specs.declared.policy.Policy.{Policy}
use Rattle.csp_model.specs.declared.source.Hash.{Hash}
use Rattle.csp_facts.specs.declared.atom.Atom.{Atom}
use Rattle.csp_facts.specs.declared.atom.Literal.{Literal}
use Rattle.csp_facts.specs.Numbers.{number, shape_count}
use Rattle.csp_facts.specs.Shapes.{is_shape}
use Rattle.csp_facts.specs.declared.shape.Shape.{Shape}
use Rattle.csp_facts.proofs.Listed.{shape_of_number}
use Rattle.csp_formula.specs.Compiled.{policy_sentence}
use Rattle.csp_formula.specs.Surely.{surely}
use Rattle.csp_answer.specs.Answers.{IsAnswer, sentence_in}
use Rattle.csp_answer.specs.Tables.{AreAnswers, AreKinds, Says, answer_at, answer_of}
use Rattle.csp_answer.specs.declared.answer.ShapeAnswer.{ShapeAnswer}
use Rattle.csp_answer.specs.declared.policy.PolicyAnswers.{PolicyAnswers}
use Rattle.csp_answer.specs.declared.table.AnswerTable.{AnswerTable}
use Rattle.csp_proof.specs.Accepts.{Lists, hashes_in, is_surely, policy_is}
use Rattle.csp_proof.specs.Pairs.{Pair}
use Rattle.csp_proof.specs.declared.proof.Node.{Node}
use Rattle.csp_proof.specs.declared.proof.Node.TheVariants as node
use Rattle.csp_proof.specs.declared.proof.Tree.{Tree}
use Rattle.csp_checker.specs.PreparedClaim.{AreAlike, Fits, IsFor, SayTheSame, lists_of}
use Rattle.csp_checker.specs.Leaves.{AnswerAt, is_enforced, known, rule_by, rule_for}
use Rattle.csp_branch.specs.Walks.{Position}
use Rattle.csp_checker.specs.Walk.{is_unmet}
use Rattle.csp_checker.specs.declared.prepared_claim.PreparedClaim.{PreparedClaim}
use Rattle.csp_checker.proofs.Formed.{all_at}
use Rattle.csp_checker.proofs.Law.{TellTheSame}

held : {B : Type 0} (P : B → Type 0) (o : Option B) → MatchOption o ⊥ P → (y : B) × (o ≡ Some y) × P y
held P None has = absurd has
held P (Some y) has = (y, refl, has)

element : {X : Type 0} (xs : List X) (i : ℕ) → i < length xs → (x : X) × (slice_get xs i ≡ Some x)
element [] i inside = absurd (omega arith)
element (x ∷ xs) zero inside = (x, refl)
element (x ∷ xs) (suc i) inside = element xs i (omega arith)

some_is : {X : Type 0} (o : Option X) → IsSome o → (x : X) × (o ≡ Some x)
some_is None has = cc has
some_is (Some x) has = (x, refl)

abbrev flat : {A : Type 0} → Option (Option A) → Option A
flat None = None
flat (Some o) = o

flattened : {A B : Type 0} (f : A → Option B) (o : Option A) → option_and_then f o ≡ flat (option_map f o)
flattened f None = refl
flattened f (Some x) = refl

-- One list and its answers

module _ (atoms : List Atom) (hashes : List Hash) (policies : List Policy) (each : List PolicyAnswers) (are : AreAnswers atoms hashes policies each) where
  found : (n : ℕ) (policy : Policy) (kind : Shape) → slice_get policies n ≡ Some policy → IsTrue (is_shape kind)
      → (answer : ShapeAnswer) × (answer_of each n (number kind) ≡ Some answer) × Says atoms (policy_sentence policy kind hashes) answer
  found n policy kind at listed =
      let inside : n < length each = omega (arith, are.long, slice_get_within policies n policy at) in
      let own = element each n inside in
      let one = held (Says atoms (policy_sentence policy kind hashes)) (answer_at (number kind) own.0) (are.each n policy own.0 at own.1 kind listed) in
      (one.0, ap (option_and_then (answer_at (number kind))) own.1 ∙ one.1, one.2)

  known_is : (n : ℕ) (policy : Policy) (kind : Shape) → slice_get policies n ≡ Some policy → IsTrue (is_shape kind) → (ls : List Literal)
      → known atoms ls each n (number kind) ≡ surely ls (policy_sentence policy kind hashes)
  known_is n policy kind at listed ls =
      let f = found n policy kind at listed in
      ap (option_and_then (λ (answer : ShapeAnswer). surely ls (sentence_in atoms answer))) f.1 ∙ f.2.says ls

  -- at each number of a shape
  pub answers_there : (shape : ℕ) → shape < shape_count → AnswerAt (length atoms) shape each
  answers_there shape inside n = by (answer_of each n shape) refl where
    by : (o : Option ShapeAnswer) → answer_of each n shape ≡ o → IfSome o (IsAnswer (length atoms))
    by None is = tt
    by (Some answer) is =
        let kind = shape_of_number shape inside in
        let within : n < length each = option_and_then_some (answer_at shape) (slice_get each n) answer is (λ own at _. slice_get_within each n own at) in
        let policy = element policies n (omega (arith, within, are.long)) in
        let f = found n policy.0 kind.0 policy.1 kind.1 in
        let same : f.0 ≡ answer = same_Some f.0 answer (sym f.1 ∙ ap (answer_of each n) kind.2 ∙ is) in
        subst (IsAnswer (length atoms)) same f.2.answer

  policy_known : (expected : Bool) (kind : Shape) → IsTrue (is_shape kind) → (ls : List Literal) (n : ℕ)
      → (is_enforced (slice_get policies n) && is_surely expected (known atoms ls each n (number kind)))
      ≡ policy_is expected hashes kind ls (slice_get policies n)
  policy_known expected kind listed ls n = by (slice_get policies n) refl where
    by : (o : Option Policy) → slice_get policies n ≡ o
        → (is_enforced o && is_surely expected (known atoms ls each n (number kind))) ≡ policy_is expected hashes kind ls o
    by None at = refl
    by (Some policy) at = ap (λ (o : Option Bool). is_enforce policy.disposition && is_surely expected o) (known_is n policy kind at listed ls)

  answers_alike : (one other : ℕ) → map (answer_at one) each ≡ map (answer_at other) each → (n : ℕ) → answer_of each n one ≡ answer_of each n other
  answers_alike one other same n =
      flattened (answer_at one) (slice_get each n)
      ∙ ap flat (sym (slice_get-map (answer_at one) each n) ∙ ap (λ (os : List (Option ShapeAnswer)). slice_get os n) same ∙ slice_get-map (answer_at other) each n)
      ∙ sym (flattened (answer_at other) (slice_get each n))

  alike : (one other : Shape) → IsTrue (is_shape one) → IsTrue (is_shape other) → map (answer_at (number one)) each ≡ map (answer_at (number other)) each
      → SayTheSame hashes one other policies
  alike one other one_listed other_listed same i d inside ls =
      let policy = get_or policies i d in
      let at = slice_get-get_or policies i d inside in
      sym (known_is i policy one at one_listed ls)
      ∙ ap (option_and_then (λ (answer : ShapeAnswer). surely ls (sentence_in atoms answer))) (answers_alike (number one) (number other) same i)
      ∙ known_is i policy other at other_listed ls

-- at shapes of one kind policies say the same, where they answer the same
pub kinds_alike : (atoms : List Atom) (lists : Lists) (table : AnswerTable) → AreAnswers atoms (hashes_in lists) lists.first.policies table.first → AreAnswers atoms (hashes_in lists) lists.second.policies table.second
    → AreKinds table → AreAlike lists table
kinds_alike atoms lists table first second are = λ one other one_listed other_listed kinds.
    let kind = some_is (slice_get table.kinds (number one)) (are.there one one_listed) in
    let same = are.same (number one) (number other) kind.0 kind.1 (sym kinds ∙ kind.1) in (
      alike atoms (hashes_in lists) lists.first.policies table.first first one other one_listed other_listed same.0,
      alike atoms (hashes_in lists) lists.second.policies table.second second one other one_listed other_listed same.1,
    )

-- by the answers the same is told as by the definition
pub told : (asked : PreparedClaim) (walker : Position) → Fits asked walker → (pair : Pair) (tree : Tree) → IsFor pair tree
    → (n : Node) → TellTheSame (rule_by walker.atoms asked tree) (rule_for (lists_of asked) pair) n
told asked walker fit pair tree for (node.Split atom) ls = refl
told asked walker fit pair tree for (node.Blocked policy) ls =
    ap (λ (shape : ℕ). is_enforced (slice_get asked.first.now.policies policy) && is_surely false (known walker.atoms ls asked.table.first policy shape)) (sym for.shape)
    ∙ policy_known walker.atoms (hashes_in (lists_of asked)) asked.first.now.policies asked.table.first fit.first false pair.shape for.listed ls policy
told asked walker fit pair tree for node.Met ls =
    let by = λ (shape policy : ℕ). is_enforced (slice_get asked.second.now.policies policy) && is_surely true (known walker.atoms ls asked.table.second policy shape) in
    ap (λ (shape : ℕ). by shape tree.policy) (sym for.shape)
    ∙ ap (by (number pair.shape)) (sym for.policy)
    ∙ policy_known walker.atoms (hashes_in (lists_of asked)) asked.second.now.policies asked.table.second fit.second true pair.shape for.listed ls pair.policy

-- Pairs whose shapes are of one kind

policy_alike : (expected : Bool) (hashes : List Hash) (one other : Shape) (policies : List Policy) → SayTheSame hashes one other policies
    → (ls : List Literal) (n : ℕ) → policy_is expected hashes one ls (slice_get policies n) ≡ policy_is expected hashes other ls (slice_get policies n)
policy_alike expected hashes one other policies same ls n = by (slice_get policies n) refl where
  by : (o : Option Policy) → slice_get policies n ≡ o → policy_is expected hashes one ls o ≡ policy_is expected hashes other ls o
  by None at = refl
  by (Some policy) at =
      ap (λ (o : Option Bool). is_enforce policy.disposition && is_surely expected o)
      (all_at (λ (p : Policy). (ls : List Literal) → surely ls (policy_sentence p one hashes) ≡ surely ls (policy_sentence p other hashes)) policies n policy same at ls)

module _ (lists : Lists) (table : AnswerTable) (alike : AreAlike lists table) (one other : Pair) (one_listed : IsTrue (is_shape one.shape)) (other_listed : IsTrue (is_shape other.shape))
    (kinds : slice_get table.kinds (number one.shape) ≡ slice_get table.kinds (number other.shape)) where
  -- of one policy are told the same
  pub told_alike : one.policy ≡ other.policy → (n : Node) → TellTheSame (rule_for lists one) (rule_for lists other) n
  told_alike policies (node.Split atom) ls = refl
  told_alike policies (node.Blocked policy) ls =
      policy_alike false (hashes_in lists) one.shape other.shape lists.first.policies (alike one.shape other.shape one_listed other_listed kinds).0 ls policy
  told_alike policies node.Met ls =
      policy_alike true (hashes_in lists) one.shape other.shape lists.second.policies (alike one.shape other.shape one_listed other_listed kinds).1 ls one.policy
      ∙ ap (λ (n : ℕ). policy_is true (hashes_in lists) other.shape ls (slice_get lists.second.policies n)) policies

  told_unmet : (n : Node) → is_unmet n ≡ true → TellTheSame (rule_for lists one) (rule_for lists other) n
  told_unmet (node.Split atom) unmet ls = refl
  told_unmet (node.Blocked policy) unmet ls =
      policy_alike false (hashes_in lists) one.shape other.shape lists.first.policies (alike one.shape other.shape one_listed other_listed kinds).0 ls policy
  told_unmet node.Met unmet ls = cc unmet

  -- and where no node is met, of any policies
  pub unmet_alike : (nodes : List Node) → list_all is_unmet nodes ≡ true → All (TellTheSame (rule_for lists one) (rule_for lists other)) nodes
  unmet_alike [] unmet = All-nil (TellTheSame (rule_for lists one) (rule_for lists other))
  unmet_alike (n ∷ nodes) unmet =
      let both = and_parts (is_unmet n) (list_all is_unmet nodes) unmet in
      All-cons (TellTheSame (rule_for lists one) (rule_for lists other)) n nodes (told_unmet n both.0) (unmet_alike nodes both.1)
