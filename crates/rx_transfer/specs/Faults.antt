-- Why a source wasn't read to its end.
use Rattle.rx_transfer.specs.declared.reading.ReadFault.{ReadFault}
use Rattle.rx_transfer.specs.declared.reading.TextFault.{TextFault}

-- where its bytes couldn't be read
abbrev pub text_fault : ReadFault → TextFault
text_fault ReadFault.Failed = TextFault.Failed
text_fault ReadFault.Memory = TextFault.Memory
