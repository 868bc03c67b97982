-- All laws of the machine. Assumes nothing.
use Rattle.machine.specs.Laws.{MachineLaws}
use Rattle.machine.proofs.JointLaws.{begins-empty, pass_is_pass, take_is_take, tick_is_tick}
use Rattle.machine.proofs.RunLaws.{goes_as_port, leaves_in_time, queues-kept}
use Rattle.machine.proofs.PhaseLaws.{open_goes, take_then_tick}
use Rattle.machine.proofs.ExampleLaws.{leaves_at_two}

pub machine_laws : MachineLaws
machine_laws =
    record {
      begins = begins-empty;
      passes = pass_is_pass;
      takes = take_is_take;
      ticks = tick_is_tick;
      run = goes_as_port;
      gates = open_goes;
      taking = take_then_tick;
      leave = leaves_in_time;
      queues = queues-kept;
      worked = leaves_at_two;
    }
