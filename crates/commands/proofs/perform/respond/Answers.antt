use Rattle.command_answers.proofs.WriteLemmas.{memory_unwritten, program_unwritten, text_unwritten, threads_unwritten}
use Rattle.command_answers.proofs.StartLemmas.{gives_started, leaves_started, memory_started, program_started, text_started}
use Rattle.commands.proofs.StartLemmas.{exec_started}
use Rattle.commands.proofs.perform.respond.Goals as goal

pub returns-in-Asm-clause-cause : goal.returns-in-Asm-clause-cause
returns-in-Asm-clause-cause g c = c.give.ensures.cause (text_unwritten _ _ c.asm.result c.asm.ensures.fault)

pub returns-in-Compile-clause-cause : goal.returns-in-Compile-clause-cause
returns-in-Compile-clause-cause g c =
    c.give-in-Compile.ensures.cause (text_unwritten _ _ c.compile.result c.compile.ensures.fault)

pub returns-in-Dis-clause-cause : goal.returns-in-Dis-clause-cause
returns-in-Dis-clause-cause g c = c.give-in-Dis.ensures.cause (memory_unwritten _ c.dis.result c.dis.ensures.fault)

pub returns-in-Clock-clause-cause : goal.returns-in-Clock-clause-cause
returns-in-Clock-clause-cause g c =
    c.give-in-Clock.ensures.cause (memory_unwritten _ c.clock.result c.clock.ensures.fault)

pub returns-in-Verify-clause-cause : goal.returns-in-Verify-clause-cause
returns-in-Verify-clause-cause g c =
    c.give-in-Verify.ensures.cause (memory_unwritten _ c.verify.result c.verify.ensures.fault)

pub returns-in-Explain-clause-cause : goal.returns-in-Explain-clause-cause
returns-in-Explain-clause-cause g c =
    c.give-in-Explain.ensures.cause (program_unwritten _ _ _ c.explanation.result c.explanation.ensures.fault)

pub returns-in-Prove-clause-cause : goal.returns-in-Prove-clause-cause
returns-in-Prove-clause-cause g c =
    c.give-in-Prove.ensures.cause (text_unwritten _ _ c.prove_claims.result c.prove_claims.ensures.fault)

pub returns-in-Stress-clause-cause : goal.returns-in-Stress-clause-cause
returns-in-Stress-clause-cause g c =
    c.give-in-Stress.ensures.cause (threads_unwritten _ c.stress.result c.stress.ensures.fault)

-- ---- threads

pub returns-in-Exec-clause-thread : goal.returns-in-Exec-clause-thread
returns-in-Exec-clause-thread g c = exec_started _ _ _ _ _ c.exec_bytes.result c.exec_bytes.ensures.left

pub returns-in-Asm-clause-thread : goal.returns-in-Asm-clause-thread
returns-in-Asm-clause-thread g c =
    gives_started _ _ _ c.asm.result c.give.result
    (text_started _ _ c.asm.result c.asm.ensures.fault) c.give.ensures.left

pub returns-in-Compile-clause-thread : goal.returns-in-Compile-clause-thread
returns-in-Compile-clause-thread g c =
    gives_started _ _ _ c.compile.result c.give-in-Compile.result
    (text_started _ _ c.compile.result c.compile.ensures.fault) c.give-in-Compile.ensures.left

pub returns-in-Dis-clause-thread : goal.returns-in-Dis-clause-thread
returns-in-Dis-clause-thread g c =
    gives_started _ _ _ c.dis.result c.give-in-Dis.result
    (memory_started _ c.dis.result c.dis.ensures.fault) c.give-in-Dis.ensures.left

pub returns-in-Clock-clause-thread : goal.returns-in-Clock-clause-thread
returns-in-Clock-clause-thread g c =
    gives_started _ _ _ c.clock.result c.give-in-Clock.result
    (memory_started _ c.clock.result c.clock.ensures.fault) c.give-in-Clock.ensures.left

pub returns-in-Verify-clause-thread : goal.returns-in-Verify-clause-thread
returns-in-Verify-clause-thread g c =
    gives_started _ _ _ c.verify.result c.give-in-Verify.result
    (memory_started _ c.verify.result c.verify.ensures.fault) c.give-in-Verify.ensures.left

pub returns-in-Explain-clause-thread : goal.returns-in-Explain-clause-thread
returns-in-Explain-clause-thread g c =
    gives_started _ _ _ c.explanation.result c.give-in-Explain.result
    (program_started _ _ _ c.explanation.result c.explanation.ensures.fault) c.give-in-Explain.ensures.left

pub returns-in-Prove-clause-thread : goal.returns-in-Prove-clause-thread
returns-in-Prove-clause-thread g c =
    gives_started _ _ _ c.prove_claims.result c.give-in-Prove.result
    (text_started _ _ c.prove_claims.result c.prove_claims.ensures.fault) c.give-in-Prove.ensures.left

pub returns-in-Stress-clause-thread : goal.returns-in-Stress-clause-thread
returns-in-Stress-clause-thread g c =
    gives_started _ _ _ c.stress.result c.give-in-Stress.result c.stress.ensures.thread c.give-in-Stress.ensures.left

pub returns-in-Help-clause-thread : goal.returns-in-Help-clause-thread
returns-in-Help-clause-thread g c = leaves_started _ _ _ _ _ c.write_whole.result c.write_whole.ensures.left
