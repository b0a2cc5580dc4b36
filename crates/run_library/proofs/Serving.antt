-- Opening a file where the library stands behind the files.
use Rattle.std.proofs.Common.{◌≡◌, ◌∙◌, ℕ, List, Option, Some, None, Err, ap, refl}
use Rattle.std.specs.Prelude.{IsErrOf}
use Rattle.base_core.specs.declared.device.OpenFault.{OpenFault}
use Rattle.base_core.specs.declared.device.OpenFault.TheVariants.{Missing}
use Rattle.base_core.specs.Device.{File, Lacks, Opens, found}
use Rattle.reading_library.specs.Texts.{library}
use Rattle.run_library.specs.Behind.{behind, files_behind, files_in}
use Rattle.run_library.specs.Served.{served}
use Rattle.run_library.proofs.Found.{found_behind, found_first}

-- what is found stays found
pub stays : (name bytes : List ℕ) (folder : Option (List ℕ)) (files : List File) → found name files ≡ Some bytes → found name (files_behind folder files) ≡ Some bytes
stays name bytes None files is = is
stays name bytes (Some folder) files is = found_first name bytes files (files_in folder library) is

-- what is not found is sought in the library
pub sought : (name : List ℕ) (folder : Option (List ℕ)) (files : List File) → found name files ≡ None → found name (files_behind folder files) ≡ served folder name
sought name None files none = none
sought name (Some folder) files none = found_behind name files (files_in folder library) none

pub opens_own : (name : List ℕ) (folder : Option (List ℕ)) (holds : Option (List File)) (left : Option (List ℕ)) → Opens name holds left → Opens name (behind folder holds) left
opens_own name folder None left h = tt
opens_own name folder (Some files) left h = (h.0, stays name h.0 folder files h.1, h.2)

pub opens_served : (name text : List ℕ) (folder : Option (List ℕ)) (holds : Option (List File)) (before now : ℕ) → Lacks name holds before now → served folder name ≡ Some text
    → Opens name (behind folder holds) (Some text)
opens_served name text folder None before now lacks is = tt
opens_served name text folder (Some files) before now lacks is = (text, sought name folder files lacks ∙ is, refl)

pub lacks_both : (name : List ℕ) (folder : Option (List ℕ)) (holds : Option (List File)) (before now : ℕ) → Lacks name holds before now → served folder name ≡ None
    → Lacks name (behind folder holds) before now
lacks_both name folder None before now lacks none = lacks
lacks_both name folder (Some files) before now lacks none = sought name folder files lacks ∙ none

pub is_missing : (fault : OpenFault) → fault ≡ Missing → IsErrOf {T = Unit {0}} (Err fault) Missing
is_missing fault is = ap (λ f. Err f) is
