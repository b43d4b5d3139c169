pub mod Advised
pub mod Finding
pub mod Fitting
pub mod WritesFurther
