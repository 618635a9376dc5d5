-- What each of the texts makes that make an office's tables by domains where there was none, after those before it.
use Rattle.std.proofs.Common.{ℕ, zero, suc, List, ◌∷◌, refl, take, arith}
use Rattle.sqlite.specs.Listing.{understood}
use Rattle.sqlite_tied.specs.Compute.{everything}
use Rattle.sql_schema.specs.Schema.{record_table, team_table, policy_table, domain_table, d_template_table, d_language_table, d_unit_table, d_suggestion_table, d_vote_table, d_vote_sum_table, d_tally_table}
use Rattle.sql_schema.specs.Layouts.{made_last, tables_of}
use Rattle.sql_schema.specs.declared.new_tables.TheConstants.{RECORD, TEAM, POLICY}
use Rattle.sql_schema.specs.declared.new_tables.TheConstants.{DOMAIN, D_TEMPLATE, D_LANGUAGE, D_UNIT, D_SUGGESTION, D_VOTE, D_VOTE_SUM, D_TALLY}
use Rattle.sql_schema.proofs.Creations.{IsCreation, allowing}
use Rattle.sql_schema.proofs.TablesSoFar.{MakeInTurn}
use Rattle.sql_schema.proofs.MoreTables.{domain_texts}

makes_record : IsCreation (take 0 (tables_of made_last)) record_table RECORD.now
unfolding understood everything allowing
makes_record = record { command = refl; statement = refl; plain = (refl, refl); defines = refl; uncounted = refl; whole = refl; allowed = refl }

makes_team : IsCreation (take 1 (tables_of made_last)) team_table TEAM.now
unfolding understood everything allowing
makes_team = record { command = refl; statement = refl; plain = (refl, refl); defines = refl; uncounted = refl; whole = refl; allowed = refl }

makes_policy : IsCreation (take 2 (tables_of made_last)) policy_table POLICY.now
unfolding understood everything allowing
makes_policy = record { command = refl; statement = refl; plain = (refl, refl); defines = refl; uncounted = refl; whole = refl; allowed = refl }

makes_domain : IsCreation (take 3 (tables_of made_last)) domain_table DOMAIN.now
unfolding understood everything allowing
makes_domain = record { command = refl; statement = refl; plain = (refl, refl); defines = refl; uncounted = refl; whole = refl; allowed = refl }

makes_template : IsCreation (take 4 (tables_of made_last)) d_template_table D_TEMPLATE.now
unfolding understood everything allowing
makes_template = record { command = refl; statement = refl; plain = (refl, refl); defines = refl; uncounted = refl; whole = refl; allowed = refl }

makes_language : IsCreation (take 5 (tables_of made_last)) d_language_table D_LANGUAGE.now
unfolding understood everything allowing
makes_language = record { command = refl; statement = refl; plain = (refl, refl); defines = refl; uncounted = refl; whole = refl; allowed = refl }

makes_unit : IsCreation (take 6 (tables_of made_last)) d_unit_table D_UNIT.now
unfolding understood everything allowing
makes_unit = record { command = refl; statement = refl; plain = (refl, refl); defines = refl; uncounted = refl; whole = refl; allowed = refl }

makes_suggestion : IsCreation (take 7 (tables_of made_last)) d_suggestion_table D_SUGGESTION.now
unfolding understood everything allowing
makes_suggestion = record { command = refl; statement = refl; plain = (refl, refl); defines = refl; uncounted = refl; whole = refl; allowed = refl }

makes_vote : IsCreation (take 8 (tables_of made_last)) d_vote_table D_VOTE.now
unfolding understood everything allowing
makes_vote = record { command = refl; statement = refl; plain = (refl, refl); defines = refl; uncounted = refl; whole = refl; allowed = refl }

makes_sum : IsCreation (take 9 (tables_of made_last)) d_vote_sum_table D_VOTE_SUM.now
unfolding understood everything allowing
makes_sum = record { command = refl; statement = refl; plain = (refl, refl); defines = refl; uncounted = refl; whole = refl; allowed = refl }

makes_tally : IsCreation (take 10 (tables_of made_last)) d_tally_table D_TALLY.now
unfolding understood everything allowing
makes_tally = record { command = refl; statement = refl; plain = (refl, refl); defines = refl; uncounted = refl; whole = refl; allowed = refl }

-- the texts in the order of their tables
abbrev pub texts_by_domain : List (List ℕ)
texts_by_domain = RECORD.now ∷ TEAM.now ∷ POLICY.now ∷ domain_texts

-- each makes its table after those before it
pub text_makes : MakeInTurn made_last texts_by_domain
text_makes zero within = (record_table, makes_record, refl)
text_makes (suc zero) within = (team_table, makes_team, refl)
text_makes (suc (suc zero)) within = (policy_table, makes_policy, refl)
text_makes (suc (suc (suc zero))) within = (domain_table, makes_domain, refl)
text_makes (suc (suc (suc (suc zero)))) within = (d_template_table, makes_template, refl)
text_makes (suc (suc (suc (suc (suc zero))))) within = (d_language_table, makes_language, refl)
text_makes (suc (suc (suc (suc (suc (suc zero)))))) within = (d_unit_table, makes_unit, refl)
text_makes (suc (suc (suc (suc (suc (suc (suc zero))))))) within = (d_suggestion_table, makes_suggestion, refl)
text_makes (suc (suc (suc (suc (suc (suc (suc (suc zero)))))))) within = (d_vote_table, makes_vote, refl)
text_makes (suc (suc (suc (suc (suc (suc (suc (suc (suc zero))))))))) within = (d_vote_sum_table, makes_sum, refl)
text_makes (suc (suc (suc (suc (suc (suc (suc (suc (suc (suc zero)))))))))) within = (d_tally_table, makes_tally, refl)
text_makes (suc (suc (suc (suc (suc (suc (suc (suc (suc (suc (suc k))))))))))) within = absurd (omega (arith, within))
