-- Bytes have one answer under given options and one listing, where images and texts have one reading and programs one
-- run.
use Rattle.std.proofs.Common.{◌≡◌, ◌≢◌, ℕ, List, Bool, true, false, true≢false, Result, Ok, Err, ◌∙◌, refl, sym, ap, subst}
use Rattle.std.specs.Ordering.{nat_cmp}
use Rattle.std.specs.FinMap.{FinMap}
use Rattle.node_env.specs.Env.{Setting}
use Rattle.bpf_insn.specs.declared.forms.Insn.{Insn}
use Rattle.bpf_insn.specs.declared.image.ImageError.{ImageError}
use Rattle.bpf_insn.specs.declared.image.ImageError.TheVariants as errors
use Rattle.bpf_insn.specs.Programs.{IsProgram, image_of}
use Rattle.bpf_insn.specs.Images.{RefusesImage}
use Rattle.bpf_asm.specs.Meaning.{Means}
use Rattle.bpf_machine.specs.declared.word.Outcome.{Outcome}
use Rattle.bpf_machine.specs.Run.{RunAnswers}
use Rattle.requests.specs.declared.request.ExecOptions.{ExecOptions}
use Rattle.command_answers.specs.declared.answer.Answer.{Answer}
use Rattle.command_answers.specs.declared.rejection.Unread.{Unread}
use Rattle.command_answers.specs.declared.rejection.Unread.TheVariants.{Shape, Image, Text}
use Rattle.requests.specs.declared.request.ShapeOptions.{ShapeOptions}
use Rattle.command_answers.specs.Answer.{Answers, AnswersLeaving, RunsRead, SameAnswer, SameUnread}
use Rattle.command_answers.specs.AsmText.{ReadsAsmText}
use Rattle.requests.specs.Case.{case_memory, case_setting}
use Rattle.command_answers.specs.Left.{Left}
use Rattle.command_answers.specs.Image.{ReadsImage}
use Rattle.requests.specs.Shapes.{HasShape, asked_extent}
use Rattle.command_answers.specs.Input.{IsProgramOfInput, IsUnread}

-- what the laws of the crates below say
abbrev pub OneProgram : Type 0
OneProgram = (p q : List Insn) → IsProgram p → IsProgram q → image_of p ≡ image_of q → p ≡ q

abbrev pub OneRefusal : Type 0
OneRefusal = (bytes : List ℕ) (e d : ImageError) → RefusesImage bytes e → RefusesImage bytes d → e ≢ errors.Memory
    → d ≢ errors.Memory → e ≡ d

abbrev pub Apart : Type 0
Apart = (p : List Insn) (e : ImageError) → IsProgram p → RefusesImage (image_of p) e → e ≡ errors.Memory

abbrev OneMeaning : Type 0
OneMeaning = (text : List ℕ) (p q : List Insn) → Means text p → Means text q → p ≡ q

abbrev OneRun : Type 0
OneRun =
    (program : List Insn) (env : Setting) (memory : List ℕ) (fuel : ℕ) (left right : List ℕ)
    (sent gone : FinMap nat_cmp ℕ) (first second : Outcome)
    → RunAnswers program env memory fuel left sent first → RunAnswers program env memory fuel right gone second
    → (first ≡ second) × (left ≡ right) × (sent ≡ gone)

-- an image of a program has no refusal but want of memory
not_both : Apart → (bytes : List ℕ) (program : List Insn) (e : ImageError) → ReadsImage bytes (Ok program)
    → RefusesImage bytes e → e ≡ errors.Memory
not_both apart bytes program e read refused =
    apart program e read.0 (subst (λ (l : List ℕ). RefusesImage l e) read.1 refused)

-- an image has one program, and so has a text
one_read : OneProgram → OneMeaning → (text : Bool) (bytes : List ℕ) (p q : List Insn) → IsProgramOfInput text bytes p
    → IsProgramOfInput text bytes q → p ≡ q
one_read one_program one_meaning true bytes p q first second = one_meaning bytes p q first.1 second.1
one_read one_program one_meaning false bytes p q first second =
    one_program p q first.0 second.0 (sym first.1 ∙ second.1)

-- bytes have one run
pub record SameRun (o w : Outcome) (l m : Left) : Type 0 where
  pub outcome : o ≡ w
  pub memory : l.memory ≡ m.memory
  pub sent : l.outbox.sent ≡ m.outbox.sent

same_run : OneProgram → OneMeaning → OneRun → (asked : ExecOptions) (bytes : List ℕ) (o w : Outcome) (l m : Left)
    → RunsRead asked bytes o l → RunsRead asked bytes w m → SameRun o w l m
same_run one_program one_meaning one_run asked bytes o w l m first second =
    let same = one_read one_program one_meaning asked.text bytes first.program second.program first.read second.read in
    let env = case_setting (asked_extent asked.shape) asked.case in
    let memory = case_memory (asked_extent asked.shape) asked.case in
    let moved : RunAnswers second.program env memory asked.fuel l.memory l.outbox.sent o =
    subst (λ (p : List Insn). RunAnswers p env memory asked.fuel l.memory l.outbox.sent o) same first.run in
    let all = one_run second.program env memory asked.fuel l.memory m.memory l.outbox.sent m.outbox.sent o w moved
    second.run in
    record { outcome = all.0; memory = all.1; sent = all.2 }

-- if they have no program, none runs
unread_or_run : Apart → (options : ExecOptions) (bytes : List ℕ) (unread : Unread) (outcome : Outcome) (left : Left)
    → IsUnread options.shape options.text bytes unread → HasShape options.shape
    → RunsRead options bytes outcome left → ⊥
unread_or_run apart options bytes Shape outcome left unread shape ran = unread shape
unread_or_run apart options bytes (Image e) outcome left unread shape ran =
    let read : ReadsImage bytes (Ok ran.program) =
    subst (λ (t : Bool). IsProgramOfInput t bytes ran.program) unread.1 ran.read in
    unread.2.1 (not_both apart bytes ran.program e read unread.2.0)
unread_or_run apart options bytes (Text e) outcome left unread shape ran =
    let read : ReadsAsmText bytes (Ok ran.program) =
    subst (λ (t : Bool). IsProgramOfInput t bytes ran.program) unread.1 ran.read in
    unread.2.2 ran.program read.1

-- why options and bytes have no program is one reason, but for the error of a text
pub one_unread : OneRefusal → (asked : ShapeOptions) (text : Bool) (bytes : List ℕ) (a b : Unread)
    → IsUnread asked text bytes a → IsUnread asked text bytes b → SameUnread a b
one_unread one_refusal asked text bytes Shape Shape first second = refl
one_unread one_refusal asked text bytes Shape (Image d) first second = absurd (first second.0)
one_unread one_refusal asked text bytes Shape (Text d) first second = absurd (first second.0)
one_unread one_refusal asked text bytes (Image e) Shape first second = absurd (second first.0)
one_unread one_refusal asked text bytes (Image e) (Image d) first second =
    ap Image (one_refusal bytes e d first.2.0 second.2.0 first.2.1 second.2.1)
one_unread one_refusal asked text bytes (Image e) (Text d) first second = absurd (true≢false (sym second.1 ∙ first.1))
one_unread one_refusal asked text bytes (Text e) Shape first second = absurd (second first.0)
one_unread one_refusal asked text bytes (Text e) (Image d) first second = absurd (true≢false (sym first.1 ∙ second.1))
one_unread one_refusal asked text bytes (Text e) (Text d) first second = tt

-- of an image it is the same reason
pub one_unread_of_image : (asked : ShapeOptions) (text : Bool) (bytes : List ℕ) (a b : Unread) → text ≡ false
    → IsUnread asked text bytes a → SameUnread a b → a ≡ b
one_unread_of_image asked text bytes (Text e) b image is same = absurd (true≢false (sym is.1 ∙ image))
one_unread_of_image asked text bytes Shape b image is same = same
one_unread_of_image asked text bytes (Image e) b image is same = same

pub one_answer : OneProgram → OneMeaning → OneRefusal → Apart → OneRun
    → (options : ExecOptions) (bytes : List ℕ) (a b : Result Answer Unread) → Answers options bytes a
    → Answers options bytes b → SameAnswer a b
one_answer one_program one_meaning one_refusal apart one_run options bytes (Err r) (Err q) first second =
    one_unread one_refusal options.shape options.text bytes r q first.1 second.1
one_answer one_program one_meaning one_refusal apart one_run options bytes (Err r) (Ok w) first second =
    unread_or_run apart options bytes r w.outcome second.0 first.1 second.1.0 second.1.1
one_answer one_program one_meaning one_refusal apart one_run options bytes (Ok o) (Err q) first second =
    unread_or_run apart options bytes q o.outcome first.0 second.1 first.1.0 first.1.1
one_answer one_program one_meaning one_refusal apart one_run options bytes (Ok o) (Ok w) first second =
    let run = same_run one_program one_meaning one_run options bytes o.outcome w.outcome first.0 second.0 first.1.1
    second.1.1 in
    let fuels : o.fuel ≡ w.fuel = first.1.2 ∙ sym second.1.2 in
    ap (λ (x : Outcome). record { outcome = x; fuel = o.fuel }) run.outcome
    ∙ ap (λ (n : ℕ). record { outcome = w.outcome; fuel = n }) fuels

-- of an image they say all the same
pub one_of_image : (options : ExecOptions) (bytes : List ℕ) (a b : Result Answer Unread) → options.text ≡ false
    → Answers options bytes a → SameAnswer a b → a ≡ b
one_of_image options bytes (Err r) (Err q) image is same =
    ap Err (one_unread_of_image options.shape options.text bytes r q image is.1 same)
one_of_image options bytes (Err r) (Ok w) image is same = absurd same
one_of_image options bytes (Ok o) (Ok w) image is same = ap Ok same
one_of_image options bytes (Ok o) (Err q) image is same = absurd same

same_left : (l m : Left) → l.memory ≡ m.memory → l.outbox.nodes ≡ m.outbox.nodes → l.outbox.sent ≡ m.outbox.sent → l ≡ m
same_left l m memory nodes sent =
    ap (λ (x : List ℕ). record { memory = x; outbox = l.outbox }) memory
    ∙ (ap (λ (n : ℕ). record { memory = m.memory; outbox = record { nodes = n; sent = l.outbox.sent } }) nodes
    ∙ ap (λ (s : FinMap nat_cmp ℕ). record { memory = m.memory; outbox = record { nodes = m.outbox.nodes; sent = s } })
    sent)

pub one_left : OneProgram → OneMeaning → OneRun
    → (options : ExecOptions) (bytes : List ℕ) (answer : Answer) (l m : Left)
    → AnswersLeaving options bytes (Ok answer) l → AnswersLeaving options bytes (Ok answer) m → l ≡ m
one_left one_program one_meaning one_run options bytes answer l m first second =
    let run = same_run one_program one_meaning one_run options bytes answer.outcome answer.outcome l m first.1 second.1
    in
    same_left l m run.memory (first.1.nodes ∙ sym second.1.nodes) run.sent

-- bytes are the image of one program or have one refusal
pub one_listing : OneProgram → OneRefusal → Apart → (bytes : List ℕ) (a b : Result (List Insn) ImageError)
    → ReadsImage bytes a → ReadsImage bytes b → a ≡ b
one_listing one_program one_refusal apart bytes (Ok p) (Ok q) first second = ap Ok
    (one_program p q first.0 second.0 (sym first.1 ∙ second.1))
one_listing one_program one_refusal apart bytes (Ok p) (Err d) first second =
    absurd (second.1 (apart p d first.0 (subst (λ (l : List ℕ). RefusesImage l d) first.1 second.0)))
one_listing one_program one_refusal apart bytes (Err e) (Ok q) first second =
    absurd (first.1 (apart q e second.0 (subst (λ (l : List ℕ). RefusesImage l e) second.1 first.0)))
one_listing one_program one_refusal apart bytes (Err e) (Err d) first second = ap Err
    (one_refusal bytes e d first.0 second.0 first.1 second.1)
