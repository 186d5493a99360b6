-- SPDX-License-Identifier: MPL-2.0
pub mod Courses
pub mod Fronts
