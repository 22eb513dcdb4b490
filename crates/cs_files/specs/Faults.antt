-- The numbers, classes and names of faults of files: the numbers and names are this project's own, the classes are the
-- result codes of SQLite's C interface.
use Rattle.std.specs.Prelude.{ℕ, List, codes}
use Rattle.cs_value.specs.Refusals.{of_refusal}
use Rattle.cs_value.specs.declared.refusal.OrNoMemory.{OrNoMemory}
use Rattle.cs_value.specs.declared.refusal.OrNoMemory.TheVariants.{Fault, NoMemory}
use Rattle.cs_wire_entries.specs.declared.fault.ReadFault.{ReadFault}
use Rattle.cs_wire.specs.ReadFaults as read
use Rattle.cs_files.specs.declared.fault.PrintError.{PrintError}
use Rattle.cs_files.specs.declared.fault.PrintError.TheVariants as print
use Rattle.cs_files.specs.declared.fault.FileFault.{FileFault}
use Rattle.cs_files.specs.declared.fault.FileFault.TheVariants.{First, Second, Schema}

abbrev pub code_of : FileFault → ℕ
code_of (First f) = read.code_of f.kind
code_of (Second f) = read.code_of f.kind
code_of (Schema s) = 43

abbrev pub class_of : FileFault → ℕ
class_of (First f) = 11
class_of (Second f) = 11
class_of (Schema s) = 17

abbrev pub name_of : FileFault → List ℕ
name_of (First f) = read.name_of f.kind
name_of (Second f) = read.name_of f.kind
name_of (Schema s) = codes "Schema"

-- why the first of two files is not read, and why the second is not
abbrev pub of_first : OrNoMemory ReadFault → OrNoMemory FileFault
of_first (Fault f) = Fault (First f)
of_first NoMemory = NoMemory

abbrev pub of_second : OrNoMemory ReadFault → OrNoMemory FileFault
of_second (Fault f) = Fault (Second f)
of_second NoMemory = NoMemory

-- of a file that is not printed
abbrev pub print_code_of : PrintError → ℕ
print_code_of (print.Read error) = of_refusal (λ f. read.code_of f.kind) 60 error
print_code_of (print.Output fault) = 72

abbrev pub print_class_of : PrintError → ℕ
print_class_of (print.Read error) = of_refusal (λ f. 11) 7 error
print_class_of (print.Output fault) = 10

abbrev pub print_name_of : PrintError → List ℕ
print_name_of (print.Read error) = of_refusal (λ f. read.name_of f.kind) (codes "NoMemory") error
print_name_of (print.Output fault) = codes "OutputFault"

-- why the text of the only file is not made in memory
abbrev pub of_print : PrintError → OrNoMemory FileFault
of_print (print.Read error) = of_first error
of_print (print.Output fault) = NoMemory
