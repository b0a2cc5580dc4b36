mod StateHashes
mod VariableSets
