-- Published texts whose answers are known come out so, computed: one proof over one list, and one of a text with an extension. Assumes nothing.
use mathlib.Core.Path.{◌≡◌, refl, ap, ap₂, ◌∙◌}
use mathlib.Core.Bool.{Bool, false, cond}
use mathlib.Core.List.{List, [], ◌∷◌, map}
use Prim.Native.Nat.{ℕ}
use Rattle.ground.specs.Lists.{every, any, total, gather}
use Rattle.limits.specs.Limits.{host_pool}
use Rattle.algebra.specs.Polynomial.{bit, has, members, vars, equal, times, products, put, insert, reduce, product, extension}
use Rattle.paper.specs.Statement.{modulo, ring, renamed_term, renamed_field, renamed_pair, renamed, new_index, named_indices, forgets, fields, is_ring, is_index, is_variable, is_term, in_range, numbers_in_range, too_many_terms, set_of, as_term, reduced}
use Rattle.paper.specs.Grammar.{bytes, on_first, ended_by, literal, end, up_to, is_digit, digits, decimal, as_written}
use Rattle.paper.specs.Rules.{first, stored, find, remove, without, stored_terms, start, place, entries, shows, shows_all, makes_seen, combination, product_count, overfull, rules, holds_goal, after}
use Rattle.paper.specs.Answer.{index_of, judge, judge_item, report, ending, run, capacity_of, unread}
use Rattle.paper.specs.Published.{Name, is_space, is_letter, spaces, constant, name_rest, name, monomial, minus, up_to_monomials, poly, constraint, target, factor, summand, summands, addends, multiplied, step_rules, rule_of, proof_step, after_spaces, if_some, pieces, read_by, target_items}
use Rattle.paper.specs.Named.{names_of, names_in, readable, plain_number, is_plain, same_name, place_in, with_names, numbering, bad_name, named_rules, numbered, named_items, published_items, published_answer}
use Rattle.promises.specs.Samples.{numbers}
use Rattle.promises.specs.PublishedSamples.{sample_texts, published_samples, PublishedAsSaid, resolution, ResolutionAccepted}

pub published_as_said : PublishedAsSaid
unfolding bit has members vars equal times products put insert reduce product extension every any total gather renamed_term renamed_field renamed_pair renamed new_index named_indices forgets fields is_ring is_index is_variable is_term in_range numbers_in_range too_many_terms set_of as_term reduced bytes on_first ended_by literal end up_to is_digit digits decimal as_written first stored find remove without stored_terms start place entries shows shows_all makes_seen combination product_count overfull rules holds_goal after index_of judge judge_item report ending run capacity_of unread is_space is_letter spaces constant name_rest name monomial minus up_to_monomials poly constraint target factor summand summands addends multiplied step_rules rule_of proof_step after_spaces if_some pieces read_by target_items names_of names_in readable plain_number is_plain same_name place_in with_names numbering bad_name named_rules numbered named_items published_items published_answer numbers sample_texts published_samples
published_as_said = refl

-- ---- its names are numbered first, or each use of one reads the texts again
-- the names as they stand in the texts are no numbers, and they are these four
resolution_names : List Name
resolution_names = gather names_in (readable (named_items resolution))

abbrev four_names : List Name
four_names = bytes "x" ∷ bytes "y" ∷ bytes "z" ∷ bytes "fz" ∷ []

resolution_names_law : (every is_plain resolution_names ≡ false) × (with_names [] resolution_names ≡ four_names)
unfolding resolution_names every any is_plain same_name with_names names_of names_in readable decimal is_variable bytes on_first ended_by literal end up_to is_digit digits as_written gather is_space is_letter spaces constant name_rest name monomial minus up_to_monomials poly constraint target factor summand summands addends multiplied step_rules rule_of proof_step after_spaces if_some pieces read_by target_items named_items resolution
resolution_names_law = (refl, refl)

resolution_numbering : numbering resolution_names ≡ place_in four_names
unfolding numbering
resolution_numbering = ap₂ plain_or_place resolution_names_law.0 resolution_names_law.1
  where
    plain_or_place : Bool → List Name → Name → ℕ
    plain_or_place b ns n = cond b (plain_number n) (place_in ns n)

abbrev run_by : (Name → ℕ) → List ℕ
run_by f = numbers (run (capacity_of host_pool) (after start (ring (modulo 8))) 0 (map (numbered f) (named_items resolution)))

resolution_runs : run_by (place_in four_names) ≡ 0 ∷ 0 ∷ 0 ∷ 33 ∷ 10 ∷ 25 ∷ []
unfolding bit has members vars equal times products put insert reduce product extension every any total renamed_term renamed_field renamed_pair renamed new_index named_indices forgets fields is_index is_variable is_term in_range numbers_in_range too_many_terms set_of as_term reduced first stored find remove without stored_terms start place entries shows shows_all makes_seen combination product_count overfull rules holds_goal after index_of judge judge_item report ending run capacity_of names_of names_in same_name place_in bad_name named_rules numbered numbers bytes on_first ended_by literal end up_to is_digit digits as_written gather is_space is_letter spaces constant name_rest name monomial minus up_to_monomials poly constraint target factor summand summands addends multiplied step_rules rule_of proof_step after_spaces if_some pieces read_by target_items named_items resolution
resolution_runs = refl

pub resolution_accepted : ResolutionAccepted
unfolding published_items published_answer is_ring bytes resolution resolution_names
resolution_accepted = ap run_by resolution_numbering ∙ resolution_runs
