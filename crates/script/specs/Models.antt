-- What the values of the code stand for. Assumes nothing.
use Rattle.admission.specs.Plans.{plan_of}
use Rattle.script.specs.declared.session.Session.{Session}
use Rattle.script.specs.Session.{Standing}

abbrev pub standing : Session → Standing
standing s =
    record {
      program = s.program;
      stage = s.stage;
      switch = s.switch;
      plan = plan_of s.plan;
      clock = s.clock;
      records = s.records;
      numbered = s.numbered;
      no_flow = s.no_flow;
      others = s.others;
    }
