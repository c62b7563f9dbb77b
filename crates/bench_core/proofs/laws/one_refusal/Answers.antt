use Rattle.bench_core.proofs.OneRefusal.{one_stage_refusal, one_open_refusal, one_close_refusal}
use Rattle.bench_core.proofs.laws.one_refusal.Goals as goal

pub returns-clause-stage : goal.returns-clause-stage
returns-clause-stage c = one_stage_refusal

pub returns-clause-opening : goal.returns-clause-opening
returns-clause-opening c = one_open_refusal

pub returns-clause-closing : goal.returns-clause-closing
returns-clause-closing c = one_close_refusal
