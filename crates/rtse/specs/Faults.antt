-- Want of memory among the faults of a transfer.
use Rattle.rtse.specs.declared.fault.RtseFault.{RtseFault}
use Rattle.rtse.specs.declared.fault.RtseFault.TheVariants.{NoMemory}

abbrev pub no_memory : RtseFault
no_memory = NoMemory
