-- Every statement that is read of published texts can be said by a line. Assumes nothing.
use mathlib.Core.Path.{◌≡◌, refl, sym, ap, ◌∙◌}
use mathlib.Core.Bool.{Bool, true, not, cond}
use mathlib.Core.List.{List, [], ◌∷◌, ◌++◌, map}
use Prim.Native.Nat.{ℕ, zero, suc}
use Prim.Native.Char.{code}
use lib.Dec.{eqb}
use lib.ListN.{length}
use Rattle.ground.specs.Lists.{every}
use Rattle.ground.proofs.Lists.{every_append}
use Rattle.ground.proofs.Tests.{by_cond, and_both}
use Rattle.paper.specs.Statement.{PairOf, TermOf, goal, input, lin, del, ext}
use Rattle.paper.specs.Grammar.{Bytes, Line, Read, got, stuck, Reader, next, give, end, up_to, as_written}
use Rattle.paper.specs.Published.{Name, Named, spaces, symbol, constant, name, monomial, more_monomials, minus, poly, constraint, target, factor, summand, more_summands, summands, addends, multiplied, linear, delete, extend, step_rules, rule_of, proof_step, pieces, NamedItem, read_by, target_items}
use Rattle.paper.specs.Named.{Texts, named_items}
use Rattle.paper.proofs.Reading.{clash, parted}
use Rattle.paper.proofs.Pieces.{is_zero}
use Rattle.paper.proofs.ReadBack.{bare_zero}
use Rattle.paper.proofs.LinesBack.{good_field, good_pair, good_pairs, has_line}

-- ---- what a reader gives, whatever it reads
abbrev Yields : {A : Type 0} → (A → Bool) → Reader A → Type 0
Yields {A} P read = (s : Bytes) (x : A) (r : Bytes) → read s ≡ got x r → P x ≡ true

module _ {A B : Type 0} where
  gives_then : (P : B → Bool) (read : Reader A) (f : A → Reader B) → ((x : A) → Yields P (f x)) → Yields P (λ s. next (read s) f)
  gives_then P read f h s y t e = let p = parted (read s) f e in h p.value p.rest y t p.second

  gives_with : (Q : A → Bool) (P : B → Bool) (read : Reader A) (f : A → Reader B) → Yields Q read → ((x : A) → Q x ≡ true → Yields P (f x)) → Yields P (λ s. next (read s) f)
  gives_with Q P read f g h s y t e =
      let p = parted (read s) f e in
      h p.value (g s p.value p.rest p.first) p.rest y t p.second

gives_give : {A : Type 0} (P : A → Bool) (x : A) → P x ≡ true → Yields P (give x)
gives_give P x h s y r e = let q : x ≡ y = cc in ap P (sym q) ∙ h

gives_up_to : {A : Type 0} (P : A → Bool) (m c : ℕ) (item : Reader A) → Yields P item → Yields (every P) (up_to m c item)
unfolding up_to every
gives_up_to P zero c item h s xs r e = gives_give (every P) [] refl s xs r e
gives_up_to P (suc m) c item h [] xs r e = gives_give (every P) [] refl [] xs r e
gives_up_to {A} P (suc m) c item h (b ∷ s) xs r e =
    by_cond (λ (q : Read (List A)). q ≡ got xs r → every P xs ≡ true) (eqb b c)
    (λ _. gives_with P (every P) item (λ x r. next (up_to m c item r) (λ xs r'. got (x ∷ xs) r')) h
    (λ x px. gives_with (every P) (every P) (up_to m c item) (λ xs r'. got (x ∷ xs) r') (gives_up_to P m c item h)
    (λ ys py. gives_give (every P) (x ∷ ys) (and_both (P x) (every P ys) px py))) s xs r)
    (λ _. gives_give (every P) [] refl (b ∷ s) xs r) e

-- ---- polynomials and pairs
as_written_good : (t : TermOf Name) (ts : List (TermOf Name)) → good_field (as_written t ts) ≡ true
unfolding as_written bare_zero
as_written_good t [] = by_cond (λ (p : List (TermOf Name)). good_field p ≡ true) (is_zero t) (λ _. refl) (λ e. ap not e)
as_written_good t (u ∷ ts) = refl

gives_poly : Yields good_field poly
unfolding poly
gives_poly =
    gives_then good_field minus _ (λ n. gives_then good_field (monomial n) _ (λ m. gives_then good_field more_monomials _
    (λ ms. gives_give good_field (as_written m ms) (as_written_good m ms))))

gives_factor : Yields good_field factor
unfolding factor bare_zero
gives_factor [] q r e = gives_give good_field _ refl [] q r e
gives_factor (b ∷ s) q r e =
    by_cond (λ (x : Read (List (TermOf Name))). x ≡ got q r → good_field q ≡ true) (eqb b (code "*"))
    (λ _. gives_then good_field spaces _ (λ _. gives_then good_field (symbol (code "(")) _
    (λ _. gives_with good_field good_field poly _ gives_poly (λ p h. gives_then good_field (symbol (code ")")) _ (λ _. gives_give good_field p h)))) s q r)
    (λ _. gives_give good_field _ refl (b ∷ s) q r) e

gives_summand : Yields good_pair summand
unfolding summand
gives_summand = gives_then good_pair constant _ (λ i. gives_with good_field good_pair factor _ gives_factor (λ q h. gives_give good_pair _ h))

gives_more : Yields (every good_pair) more_summands
gives_more s = gives_up_to good_pair (length s) (code "+") _ (gives_then good_pair spaces _ (λ _. gives_summand)) s

-- ---- statements
gives_constraint : Yields has_line constraint
unfolding constraint has_line
gives_constraint = gives_then has_line constant _ (λ i. gives_with good_field has_line poly _ gives_poly (λ p h. gives_give has_line (input i p) h))

gives_target : Yields has_line target
unfolding target has_line
gives_target = gives_with good_field has_line poly _ gives_poly (λ p h. gives_give has_line (goal p) h)

-- the pairs, one at least
gives_summands : Yields good_pairs summands
unfolding summands good_pairs every
gives_summands =
    gives_with good_pair good_pairs summand _ gives_summand (λ q hq. gives_with (every good_pair) good_pairs more_summands _ gives_more
    (λ qs hqs. gives_give good_pairs (q ∷ qs) (and_both (good_pair q) (every good_pair qs) hq hqs)))

gives_addends : Yields good_pairs addends
unfolding addends good_pairs every bare_zero
gives_addends = gives_then good_pairs constant _ (λ j. gives_then good_pairs (symbol (code ",")) _ (λ _. gives_then good_pairs constant _ (λ l. gives_give good_pairs _ refl)))

gives_multiplied : Yields good_pairs multiplied
unfolding multiplied good_pairs every
gives_multiplied =
    gives_then good_pairs constant _ (λ j. gives_then good_pairs (symbol (code ",")) _ (λ _. gives_with good_field good_pairs poly _ gives_poly
    (λ q hq. gives_give good_pairs _ (and_both (good_field q) true hq refl))))

module _ (i : ℕ) where
  gives_linear : (pairs : Reader (List (PairOf Name))) → Yields good_pairs pairs → Yields has_line (linear pairs i)
  unfolding has_line
  gives_linear pairs g =
      gives_with good_pairs has_line pairs _ g (λ qs hqs. gives_then has_line (symbol (code ",")) _ (λ _. gives_with good_field has_line poly _ gives_poly
      (λ p h. gives_give has_line (lin i p qs) (and_both (good_field p) (good_pairs qs) h hqs))))

  gives_delete : Yields has_line (delete i)
  unfolding has_line
  gives_delete = gives_give has_line (del i) refl

  gives_extend : Yields has_line (extend i)
  unfolding has_line
  gives_extend =
      gives_then has_line name _ (λ v. gives_then has_line (symbol (code ",")) _ (λ _. gives_with good_field has_line poly _ gives_poly (λ p h. gives_give has_line (ext i v p) h)))

  -- whatever byte comes first
  gives_rule : Yields has_line (rule_of step_rules i)
  unfolding rule_of step_rules
  gives_rule [] st r e = absurd (clash e)
  gives_rule (b ∷ s) st r e =
      by (eqb b (code "%")) (spaced (linear summands i) (gives_linear summands gives_summands))
      (by (eqb b (code "d")) (spaced (delete i) gives_delete)
      (by (eqb b (code "=")) (spaced (extend i) gives_extend)
      (by (eqb b (code "+")) (spaced (linear addends i) (gives_linear addends gives_addends))
      (by (eqb b (code "*")) (spaced (linear multiplied i) (gives_linear multiplied gives_multiplied)) (λ e. absurd (clash e)))))) e
    where
      spaced : (read : Reader Named) → Yields has_line read → next (spaces s) (λ _. read) ≡ got st r → has_line st ≡ true
      spaced read g = gives_then has_line spaces (λ _. read) (λ _. g) s st r

      by : (t : Bool) {x y : Read Named} → (x ≡ got st r → has_line st ≡ true) → (y ≡ got st r → has_line st ≡ true) → cond t x y ≡ got st r → has_line st ≡ true
      by t f g = by_cond (λ (q : Read Named). q ≡ got st r → has_line st ≡ true) t (λ _. f) (λ _. g)

gives_step : Yields has_line proof_step
unfolding proof_step
gives_step = gives_then has_line constant _ gives_rule

-- ---- items: what one says, where it can be read
unfoldable pub says_line : NamedItem → Bool
says_line i = elim i.reads [ got st r ↦ has_line st | stuck r ↦ true ]

read_says_law : (r : Read Named) → ((st : Named) (t : Bytes) → r ≡ got st t → has_line st ≡ true) → elim r [ got st t ↦ has_line st | stuck t ↦ true ] ≡ true
read_says_law (got st t) h = h st t refl
read_says_law (stuck t) h = refl

by_says : (read : Reader Named) → Yields has_line read → (l : Line) → says_line (read_by read l) ≡ true
unfolding says_line read_by
by_says read g l =
    by_cond (λ (r : Read Named). elim r [ got st t ↦ has_line st | stuck t ↦ true ] ≡ true) l.ended (λ _. read_says_law whole says)
    (λ _. read_says_law (next whole (λ x r. stuck r)) (λ st t e. absurd (clash (parted whole (λ x r. stuck r) e).second)))
  where
    whole : Read Named
    whole = next (read l.content) (λ st r. next (end r) (λ _. give st))

    says : (st : Named) (t : Bytes) → whole ≡ got st t → has_line st ≡ true
    says = gives_with has_line has_line read (λ st r. next (end r) (λ _. give st)) g (λ st h. gives_then has_line end _ (λ _. gives_give has_line st h)) l.content

all_say : (read : Reader Named) → Yields has_line read → (ls : List Line) → every says_line (map (read_by read) ls) ≡ true
unfolding every
all_say read g [] = refl
all_say read g (l ∷ ls) = and_both (says_line (read_by read l)) (every says_line (map (read_by read) ls)) (by_says read g l) (all_say read g ls)

targets_say : (ls : List Line) → every says_line (target_items ls) ≡ true
unfolding target_items every
targets_say [] = refl
targets_say (l ∷ ls) =
    and_both (says_line (read_by target l)) (every says_line (map (read_by (λ s. stuck s)) ls)) (by_says target gives_target l)
    (all_say (λ s. stuck s) (λ s x r e. absurd (clash e)) ls)

both_say : (is js : List NamedItem) → every says_line is ≡ true → every says_line js ≡ true → every says_line (is ++ js) ≡ true
both_say is js a b = every_append says_line is js ∙ and_both (every says_line is) (every says_line js) a b

pub items_say : (t : Texts) → every says_line (named_items t) ≡ true
unfolding named_items every
items_say t =
    let goals : List NamedItem = target_items (pieces t.target) in
    let steps : List NamedItem = map (read_by proof_step) (pieces t.proof) in
    both_say (map (read_by constraint) (pieces t.constraints)) (goals ++ cond (eqb (length goals) 0) [] steps) (all_say constraint gives_constraint (pieces t.constraints))
    (both_say goals (cond (eqb (length goals) 0) [] steps) (targets_say (pieces t.target))
    (by_cond (λ (is : List NamedItem). every says_line is ≡ true) (eqb (length goals) 0) (λ _. refl) (λ _. all_say proof_step gives_step (pieces t.proof))))
