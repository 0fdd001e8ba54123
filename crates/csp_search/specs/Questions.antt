-- A question as a search is asked it.
use Rattle.std.specs.Prelude.{◌≡◌, IsTrue, List, ◌++◌, map, MatchOption, slice_get}
use Rattle.std.specs.List.{flat_map}
use Rattle.csp_model.specs.Policies.{IsReadable}
use Rattle.csp_model.specs.Verdict.{is_enforce}
use Rattle.csp_model.specs.declared.policy.Policy.{Policy}
use Rattle.csp_model.specs.declared.policy.PolicyList.{PolicyList}
use Rattle.csp_model.specs.declared.source.Hash.{Hash}
use Rattle.csp_facts.specs.declared.atom.Atom.{Atom}
use Rattle.csp_facts.specs.Shapes.{is_shape}
use Rattle.csp_facts.specs.declared.shape.Shape.{Shape}
use Rattle.csp_formula.specs.Compiled.{policy_sentence}
use Rattle.csp_formula.specs.Values.{atoms_in}
use Rattle.csp_answer.specs.Tables.{AreAnswers, AreKinds}
use Rattle.csp_proof.specs.Accepts.{Lists, hashes_in}
use Rattle.csp_proof.specs.Pairs.{Pair}
use Rattle.csp_search.specs.declared.searching.AnsweredLists.{AnsweredLists}
use Rattle.csp_search.specs.declared.searching.Question.{Question}

abbrev pub lists_in : AnsweredLists → Lists
lists_in lists = record { first = lists.first.now; second = lists.second.now }

abbrev pub lists_of : Question → Lists
lists_of question = lists_in question.lists.now

abbrev pub pair_of : Question → Pair
pair_of question = record { shape = question.shape; policy = question.policy }

-- the lists are as reading makes them, the vocabulary is theirs, and the table has what they answer by these
-- names
pub record AreAnswered (lists : AnsweredLists) (names : List Atom) : Type 0 where
  pub first : IsReadable lists.first.now
  pub second : IsReadable lists.second.now
  pub hashes : lists.vocabulary.hashes ≡ hashes_in (lists_in lists)
  pub first_answers : AreAnswers names lists.vocabulary.hashes lists.first.now.policies lists.table.first
  pub second_answers : AreAnswers names lists.vocabulary.hashes lists.second.now.policies lists.table.second
  pub kinds : AreKinds lists.table

-- the policy is enforced
pub record IsPosed (question : Question) (names : List Atom) : Type 0 where
  pub lists : AreAnswered question.lists.now names
  pub listed : IsTrue (is_shape question.shape)
  pub enforced : MatchOption (slice_get question.lists.now.second.now.policies question.policy) ⊥
      (λ (p : Policy). IsTrue (is_enforce p.disposition))

-- the atoms that the policies of a list speak of at a shape
abbrev pub atoms_of : List Hash → Shape → PolicyList → List Atom
atoms_of hashes kind list =
    flat_map atoms_in (map (λ (p : Policy). policy_sentence p kind hashes) list.policies)

-- those of both lists at the question's shape
abbrev pub asked_atoms : Question → List Atom
asked_atoms q = atoms_of q.lists.now.vocabulary.hashes q.shape q.lists.now.first.now
    ++ atoms_of q.lists.now.vocabulary.hashes q.shape q.lists.now.second.now
