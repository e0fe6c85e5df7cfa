pub mod NodeForms
