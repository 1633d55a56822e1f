-- What the kinds of `clap`'s refusals are here.
use Rattle.clap.specs.declared.error.kind.ErrorKind.{ErrorKind}
use Rattle.clap.specs.declared.error.kind.ErrorKind.TheVariants.{OutOfMemory}
use Rattle.cs_command.specs.declared.fault.WordsFault.{WordsFault}
use Rattle.cs_command.specs.declared.fault.WordsFault.TheVariants.{Usage, Memory}

-- want of memory is the one kind that isn't the words' fault
abbrev pub fault_by : ErrorKind → WordsFault
fault_by OutOfMemory = Memory
fault_by _ = Usage
