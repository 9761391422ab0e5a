mod SessionLemmas
mod SessionFronts
