-- Of each key the first item that has it: what one more item adds to the list of these, and to the keys that were seen.
use Rattle.std.proofs.Common.{arith, ◌≡◌, ◌∙◌, sym, ap, refl, Bool, true, false, ◌&&◌, ◌||◌, not, cond, List, [], ◌∷◌, ◌++◌, append-nil}
use Rattle.std.specs.Bool.{Decides}
use Rattle.std.specs.List.{filter, list_any}
use Rattle.std.proofs.lemmas.Bool.Decides.{Decides-like, same_from_decides}
use Rattle.std.proofs.lemmas.Grind.{common_steps}
use Rattle.std.proofs.lemmas.List.Elements.{filter-append}

module _ {X K : Type 0} (key : X → K) (same : K → K → Bool) where
  -- some item has the key
  abbrev pub has_key : List X → K → Bool
  has_key xs k = list_any (λ x. same (key x) k) xs

  abbrev pub is_other : X → X → Bool
  is_other x y = not (same (key y) (key x))

  abbrev pub first_of_each : List X → List X
  first_of_each [] = []
  first_of_each (x ∷ xs) = x ∷ filter (is_other x) (first_of_each xs)

  -- the test finds the keys of these items
  abbrev pub Knows : {Q : Type 0} → (Q → K) → (Q → Bool) → List X → Type 0
  Knows {Q} asked there xs = (q : Q) → there q ≡ has_key xs (asked q)

  has_key_more : (xs : List X) (x : X) (k : K) → has_key (xs ++ x ∷ []) k ≡ cond (same (key x) k) true (has_key xs k)
  has_key_more [] x k = grind (arith, common_steps)
  has_key_more (y ∷ xs) x k = grind (arith, common_steps, has_key_more xs x k)

  -- and so does a test that finds one key more
  pub knows_more : {Q : Type 0} (asked : Q → K) (there now : Q → Bool) (xs : List X) (x : X)
      → ((q : Q) → now q ≡ cond (same (key x) (asked q)) true (there q)) → Knows asked there xs → Knows asked now (xs ++ x ∷ [])
  knows_more asked there now xs x gains knows q =
      gains q ∙ ap (cond (same (key x) (asked q)) true) (knows q) ∙ sym (has_key_more xs x (asked q))

module _ {X K : Type 0} (key : X → K) (same : K → K → Bool) (decides : (a b : K) → Decides (same a b) (a ≡ b)) where
  turned : (a b : K) → same a b ≡ same b a
  turned a b = same_from_decides (same a b) (same b a) (decides a b) (Decides-like (same b a) sym sym (decides b a))

  -- without the items of one key a list has the other keys
  has_key-filter : (x : X) (k : K) (ys : List X)
      → has_key key same (filter (is_other key same x) ys) k ≡ (not (same (key x) k) && has_key key same ys k)
  has_key-filter x k [] = grind (arith, common_steps)
  has_key-filter x k (y ∷ ys) = elim (same (key y) (key x)) as (λ b. same (key y) (key x) ≡ b
      → has_key key same (filter (is_other key same x) (y ∷ ys)) k ≡ (not (same (key x) k) && has_key key same (y ∷ ys) k)) [
        | true ↦ λ e. let one : same (key y) k ≡ same (key x) k = ap (λ j. same j k) ((decides (key y) (key x)).0 e) in
            grind (arith, common_steps, e, one, has_key-filter x k ys)
        | false ↦ λ e. elim (same (key y) k) as (λ b. same (key y) k ≡ b
            → has_key key same (filter (is_other key same x) (y ∷ ys)) k ≡ (not (same (key x) k) && has_key key same (y ∷ ys) k)) [
              | true ↦ λ f. let one : same (key x) k ≡ same (key y) (key x) = turned (key x) k ∙ ap (λ j. same j (key x)) (sym ((decides (key y) k).0 f)) in
                  grind (arith, common_steps, e, f, one)
              | false ↦ λ f. grind (arith, common_steps, e, f, has_key-filter x k ys)
            ] refl
      ] refl

  -- no key is lost
  pub has_key-first_of_each : (xs : List X) (k : K) → has_key key same (first_of_each key same xs) k ≡ has_key key same xs k
  has_key-first_of_each [] k = refl
  has_key-first_of_each (x ∷ xs) k =
      grind (arith, common_steps, has_key-filter x k (first_of_each key same xs), has_key-first_of_each xs k)

  -- the item alone, where its key is new
  abbrev if_new : Bool → X → List X
  if_new known x = cond known [] (x ∷ [])

  if_new-filter : (y x : X) (known : Bool)
      → filter (is_other key same y) (if_new known x) ≡ if_new (same (key y) (key x) || known) x
  if_new-filter y x true = let e = turned (key x) (key y) in grind (arith, common_steps, e)
  if_new-filter y x false = let e = turned (key x) (key y) in grind (arith, common_steps, e)

  first_more : (xs : List X) (x : X)
      → first_of_each key same (xs ++ x ∷ []) ≡ first_of_each key same xs ++ if_new (has_key key same xs (key x)) x
  first_more [] x = refl
  first_more (y ∷ xs) x =
      ap (λ kept. y ∷ kept) (ap (filter (is_other key same y)) (first_more xs x)
      ∙ filter-append (is_other key same y) (first_of_each key same xs) (if_new (has_key key same xs (key x)) x)
      ∙ ap (λ kept. filter (is_other key same y) (first_of_each key same xs) ++ kept) (if_new-filter y x (has_key key same xs (key x))))

  -- an item of a key that is there adds nothing
  pub first_known : (xs : List X) (x : X) → has_key key same xs (key x) ≡ true
      → first_of_each key same (xs ++ x ∷ []) ≡ first_of_each key same xs
  first_known xs x known = first_more xs x ∙ simp known (append-nil (first_of_each key same xs))

  -- one of a new key is added at the end
  pub first_new : (xs : List X) (x : X) → has_key key same xs (key x) ≡ false
      → first_of_each key same (xs ++ x ∷ []) ≡ first_of_each key same xs ++ x ∷ []
  first_new xs x new = first_more xs x ∙ simp new
