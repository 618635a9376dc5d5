use Rattle.office_laws.proofs.OfficeCounts.{office_policy_counts, new_domain_counts, new_language_counts, other_languages_counts, new_template_counts, elsewhere_stays}
use Rattle.office_laws.proofs.counts.counts_follow_an_office_act.Goals as goal

pub returns-clause-policy : goal.returns-clause-policy
returns-clause-policy c = office_policy_counts

pub returns-clause-domain : goal.returns-clause-domain
returns-clause-domain c = new_domain_counts

pub returns-clause-language : goal.returns-clause-language
returns-clause-language c = λ office rules domain lang there header plan new distinct. new_language_counts office rules domain lang header plan new distinct there

pub returns-clause-other_languages : goal.returns-clause-other_languages
returns-clause-other_languages c = λ office rules domain lang header plan new distinct other apart. other_languages_counts office rules domain lang header plan new distinct other apart

pub returns-clause-template : goal.returns-clause-template
returns-clause-template c = λ office domain template plans lang distinct. new_template_counts office domain template plans lang distinct

pub returns-clause-other_domains : goal.returns-clause-other_domains
returns-clause-other_domains c = elsewhere_stays
