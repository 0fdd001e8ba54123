-- Each shape stands in the list of shapes, at the place of its number.
use Rattle.std.proofs.Common.{◌≡◌, ℕ, ◌<◌, IsTrue, true, List, map, get_or, refl, ap, arith}
use Rattle.std.specs.List.{list_all, range_with_len}
use Rattle.std.proofs.Math.ListN.{get_or-map}
use Rattle.std.proofs.lemmas.List.Elements.{All-get_or}
use Rattle.std.proofs.lemmas.List.FromFn.{get_or-range_with_len}
use Rattle.std.proofs.lemmas.List.Sums.{AllPass-from_list_all}
use Rattle.csp_facts.specs.Numbers.{number, shape_count, shapes}
use Rattle.csp_facts.specs.Shapes.{is_shape}
use Rattle.csp_facts.specs.declared.shape.Shape.{Shape}
use Rattle.csp_facts.specs.declared.shape.Shape.TheVariants as shape
use Rattle.csp_facts.proofs.Apart.{one_shape}

pub numbered : map number shapes ≡ range_with_len 0 shape_count
numbered = refl

listed : list_all is_shape shapes ≡ true
listed = refl

at_place : (n : ℕ) (other : Shape) → n < shape_count
    → IsTrue (is_shape (get_or shapes n other)) × (number (get_or shapes n other) ≡ n)
at_place n other within =
    let same = ap (λ (ns : List ℕ). get_or ns n (number other)) numbered in (
      All-get_or (λ kind. IsTrue (is_shape kind)) shapes n other within (AllPass-from_list_all is_shape shapes listed),
      omega (arith, same, get_or-map number shapes n other, get_or-range_with_len 0 shape_count n (number other) within),
    )

pub shape_of_number : (n : ℕ) → n < shape_count → (kind : Shape) × IsTrue (is_shape kind) × (number kind ≡ n)
shape_of_number n within =
    let last = shape.WorkerStart in
    let there = at_place n last within in
    (get_or shapes n last, there.0, there.1)

-- where a shape's number is one of the list's places, the shape stands there
pub at_number : (kind : Shape) → IsTrue (is_shape kind) → number kind < shape_count → get_or shapes (number kind) kind ≡ kind
at_number kind is within =
    let there = at_place (number kind) kind within in
    one_shape (get_or shapes (number kind) kind) kind there.0 is there.1

pub within_count : (kind : Shape) → number kind < shape_count
within_count kind = grind arith
