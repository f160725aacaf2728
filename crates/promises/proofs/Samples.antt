-- The samples come out as the paper says, computed: one proof over one list. Assumes nothing.
use mathlib.Core.Path.{refl}
use Rattle.paper.specs.Grammar.{bytes, on_first, ended_by, lines, literal, end, up_to, is_digit, digits, decimal, sign, term, as_written, polynomial, tab, number, field as readField, pair, pairs, kinds, begins_alike, one_of, statement}
use Rattle.paper.specs.Answer.{answer, index_of, judge, judge_item, item_of, items, report, ending, run, capacity_of, unread}
use Rattle.paper.specs.Spelling.{spell_field, spell_digits, spell_number, spell_coefficient, spell_term, spell, spelling_rules, spell_read, whole_field}
use Rattle.algebra.specs.Polynomial.{bit, has, members, vars, equal, times, products, put, insert, reduce, product, extension}
use Rattle.ground.specs.Lists.{every, any, total, gather}
use Rattle.paper.specs.Rules.{first, stored, find, remove, without, stored_terms, start, place, entries, shows, shows_all, makes_seen, combination, product_count, overfull, written_rules, rules, holds_goal, after}
use Rattle.paper.specs.Statement.{new_index, named_indices, forgets, fields, is_ring, is_index, is_variable, is_term, in_range, numbers_in_range, too_many_terms, set_of, as_term, reduced}
use Rattle.promises.specs.Samples.{numbers, text, spelling, samples, AllAsSaid}

pub all_as_said : AllAsSaid
unfolding bit has members vars equal times products put insert reduce product extension every any total gather first bytes on_first ended_by lines literal end up_to new_index named_indices forgets fields is_digit digits decimal sign term as_written polynomial tab number readField pair pairs kinds begins_alike one_of statement is_ring is_index is_variable is_term in_range numbers_in_range too_many_terms set_of as_term reduced stored find remove without stored_terms start place entries shows shows_all makes_seen combination product_count overfull written_rules rules holds_goal after index_of judge judge_item item_of items report ending run capacity_of unread answer spell_digits spell_number spell_coefficient spell_term spell spelling_rules spell_read whole_field spell_field numbers text spelling samples
all_as_said = refl
