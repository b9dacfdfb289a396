use Rattle.std.proofs.Common.{List, None, Option, Some, ℕ, false, inl, length, subst, ◌≡◌}
use Rattle.mk_io.specs.Bytes.{Appends, AppendsPart}
use Rattle.mk_outputs.specs.declared.commands.Command.{Command}
use Rattle.mk_outputs.specs.Outputs.{IsStatusOn}
use Rattle.mk_outputs.specs.{declared.statuses.Status.Status, declared.statuses.Status.TheVariants.NoMemory}
use Rattle.markus.proofs.top.markus.Goals as goal

no_memory_may_come : (command : Option Command) (left : Option (List ℕ)) (status : Status) → status ≡ NoMemory
    → IsStatusOn command left status
no_memory_may_come None left status is = tt
no_memory_may_come (Some (Command.OnText on_text)) None status is = tt
no_memory_may_come (Some (Command.OnText on_text)) (Some input) status is = inl is
no_memory_may_come (Some (Command.Gen request)) left status is = inl is

pub returns-clause-complete : goal.returns-clause-complete
returns-clause-complete g c = λ read written. absurd (written c.in-Err-write_all.ensures.fault)

pub returns-in-Err-clause-complete : goal.returns-in-Err-clause-complete
returns-in-Err-clause-complete g c = λ read written. no_memory_may_come _ _ _ c.into.ensures

-- What was given is the command's, and the sink took just that, or a part of it, or had no room for it.

pub returns-in-Ok-write_all-clause-ok : goal.returns-in-Ok-write_all-clause-ok
returns-in-Ok-write_all-clause-ok g c = λ is. record {
  command = c.in-Ok-Some.command;
  output = c.in-Ok.output;
  named = cc (c.in-Ok-Some.ensures.command, c.in-Ok-Some.field-0-is);
  answers = c.in-Ok.ensures.ok;
  written = subst (λ (bytes : List ℕ). Appends (g.K.Sink.taken c.args.sink.now) (g.K.Sink.taken c.write_all.new.sink)
      bytes) c.deref.ensures.value c.in-Ok-write_all.ensures.ok;
}

pub returns-clause-part : goal.returns-clause-part
returns-clause-part g c = λ is. record {
  command = c.in-Ok-Some.command;
  output = c.in-Ok.output;
  named = cc (c.in-Ok-Some.ensures.command, c.in-Ok-Some.field-0-is);
  answers = c.in-Ok.ensures.ok;
  written = subst (λ (bytes : List ℕ). AppendsPart (g.K.Sink.taken c.args.sink.now)
      (g.K.Sink.taken c.write_all.new.sink) bytes) c.deref.ensures.value c.in-Err-write_all.ensures.part;
}

pub returns-clause-room : goal.returns-clause-room
returns-clause-room g c = λ is. record {
  command = c.in-Ok-Some.command;
  output = c.in-Ok.output;
  named = cc (c.in-Ok-Some.ensures.command, c.in-Ok-Some.field-0-is);
  answers = c.in-Ok.ensures.ok;
  written = subst (λ (bytes : List ℕ). g.K.Sink.has_room c.args.sink.now (length bytes) ≡ false)
      c.deref.ensures.value c.in-Err-write_all.ensures.room;
}
