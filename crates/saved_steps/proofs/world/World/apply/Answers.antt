use Rattle.std.proofs.Common.{sym, subst}
use Rattle.saved_steps.specs.Undoing.{IsApplied}
use Rattle.saved_steps.specs.declared.made.Change.{Change}
use Rattle.saved_steps.proofs.world.World.apply.Goals as goal

pub returns-in-Begin : goal.returns-in-Begin
returns-in-Begin c = subst (λ (x : Change). IsApplied c.args.self.now (record { name = c.args.made.name; bound = c.args.made.bound; change = x }) c.apply_begin.new.self c.apply_begin.result) (sym c.in-Begin.is) c.apply_begin.ensures

pub returns-in-Plain : goal.returns-in-Plain
returns-in-Plain c = subst (λ (x : Change). IsApplied c.args.self.now (record { name = c.args.made.name; bound = c.args.made.bound; change = x }) c.apply_plain.new.self c.apply_plain.result) (sym c.in-Plain.is) c.apply_plain.ensures

pub returns-in-Join : goal.returns-in-Join
returns-in-Join c = subst (λ (x : Change). IsApplied c.args.self.now (record { name = c.args.made.name; bound = c.args.made.bound; change = x }) c.apply_join.new.self c.apply_join.result) (sym c.in-Join.is) c.apply_join.ensures

pub returns-in-Terminate : goal.returns-in-Terminate
returns-in-Terminate c = subst (λ (x : Change). IsApplied c.args.self.now (record { name = c.args.made.name; bound = c.args.made.bound; change = x }) c.apply_terminate.new.self c.apply_terminate.result) (sym c.in-Terminate.is) c.apply_terminate.ensures

pub returns-in-Call : goal.returns-in-Call
returns-in-Call c = subst (λ (x : Change). IsApplied c.args.self.now (record { name = c.args.made.name; bound = c.args.made.bound; change = x }) c.apply_call.new.self c.apply_call.result) (sym c.in-Call.is) c.apply_call.ensures
